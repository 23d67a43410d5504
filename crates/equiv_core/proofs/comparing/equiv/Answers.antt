use Rattle.std.proofs.Common.{rules}
use Rattle.sat_theory.specs.Log.{Refutes}
use Rattle.equiv_theory.specs.Miter.{miter}
use Rattle.equiv_theory.specs.Counterexample.{HaveSameInterface}
use Rattle.equiv_core.specs.Comparing.{IfEqual}
use Rattle.equiv_core.specs.EquivalenceLaws.{equal_equivalent}
use Rattle.equiv_core.proofs.comparing.equiv.Goals as goal

pub returns-clause-equivalent : goal.returns-clause-equivalent
returns-clause-equivalent g c =
    let same : HaveSameInterface c.args.first.now c.args.second.now = search rules in
    let equal : IfEqual c.in_ok-compare.field-0 (Refutes (miter c.args.first.now.net c.args.second.now.net)) = search rules in
    equal_equivalent c.args.first.now c.args.second.now c.in_ok-compare.field-0 c.requires.first c.requires.second same equal
