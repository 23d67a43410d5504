use Rattle.op_basis.specs.Basis.{members}
use Rattle.improve_windows.specs.ImprovementLaws.{found_replaces}
use Rattle.improve_windows.proofs.passes.after_moves.Goals as goal

pub returns : goal.returns
returns g c =
    found_replaces (members c.args.settings.now.basis) c.args.net c.unwrap_or.result c.in_ok-found.found c.in_ok-found.ensures c.unwrap_or.ensures
