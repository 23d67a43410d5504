-- The next subproblem is that of the next fence.
use Rattle.depth_file.proofs.Going.{fence_next}
use Rattle.depth_file.proofs.stepping.fence_of.Goals as goal

pub returns-clause-next : goal.returns-clause-next
returns-clause-next c = fence_next c.args.flat.now c.subproblem_in.result.now c.levels_of.result.now c.requires c.subproblem_in.ensures c.levels_of.ensures
