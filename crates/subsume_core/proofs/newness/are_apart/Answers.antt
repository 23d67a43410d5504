use Rattle.std.proofs.Common.{ℤ, List, All, sym, subst}
use Rattle.std.proofs.lemmas.List.{take_all}
use Rattle.subsume_core.specs.Inside.{IsApart}
use Rattle.subsume_core.proofs.Subsuming.{apart_more, new_by_literals}
use Rattle.subsume_core.proofs.newness.are_apart.Goals as goal

pub loop-lit-preserved : goal.loop-lit-preserved
loop-lit-preserved c = apart_more c.args.clauses.now c.args.units.now c.args.lits.now c.args.lits.now
    c.loop-lit.lit-index c.lit-item.result c.loop-lit-test.true (sym c.lit-item.is)
    (c.is_apart.ensures c.args.lits.now c.requires.marked c.if-not-is_apart.false) c.loop-lit.invariant

pub returns : goal.returns
returns c =
    let P : ℤ → Type 0 = IsApart c.args.clauses.now c.args.units.now c.args.lits.now in
    let all : All P c.args.lits.now = subst (λ (xs : List ℤ). All P xs) (take_all c.loop-lit.lit-index c.args.lits.now c.loop-lit-test.false) c.loop-lit.invariant in
    λ _. new_by_literals c.args.clauses.now c.args.units.now c.args.lits.now c.last-last.ensures.whole c.requires.units c.requires.some all
