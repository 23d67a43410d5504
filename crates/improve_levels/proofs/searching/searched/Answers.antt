use Rattle.op_basis.specs.Basis.{members}
use Rattle.improve_levels.specs.WithinLaws.{flat_on}
use Rattle.improve_levels.proofs.searching.searched.Goals as goal

pub loop-effort-init : goal.loop-effort-init
loop-effort-init g c =
    flat_on (members c.args.settings.now.basis) c.args.limit c.args.net c.in_ok-net.net c.in_ok-best.best c.in_ok-net.ensures c.in_ok-best.ensures

pub loop-effort-preserved : goal.loop-effort-preserved
loop-effort-preserved g c =
    flat_on (members c.args.settings.now.basis) c.args.limit c.args.net c.loop-effort.best c.in_ok-more.more c.loop-effort.invariant c.in_ok-more.ensures
