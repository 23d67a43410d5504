use Rattle.op_basis.specs.Basis.{members}
use Rattle.improve_levels.specs.WithinLaws.{flat_on}
use Rattle.improve_levels.proofs.searching.begun.Goals as goal

pub returns : goal.returns
returns g c =
    flat_on (members c.args.settings.now.basis) c.args.limit c.args.net c.in_ok-first.first c.in_ok-third.third c.in_ok-first.ensures
    (flat_on (members c.args.settings.now.basis) c.args.limit c.in_ok-first.first c.in_ok-second.second c.in_ok-third.third
    c.in_ok-second.ensures c.in_ok-third.ensures)
