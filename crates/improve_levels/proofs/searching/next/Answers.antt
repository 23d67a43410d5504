use Rattle.op_basis.specs.Basis.{members}
use Rattle.improve_levels.specs.WithinLaws.{flat_found}
use Rattle.improve_levels.proofs.searching.next.Goals as goal

pub returns : goal.returns
returns g c =
    flat_found (members c.args.settings.now.basis) c.args.limit c.args.net c.unwrap_or.result c.in_ok-found.found c.requires
    c.in_ok-found.ensures.cleaned_up c.in_ok-found.ensures.operators c.in_ok-found.ensures.levels c.unwrap_or.ensures
