-- The result fits the fence.
use Rattle.depth_core.proofs.LevelLogs.{coded_by_fences, tried_low}
use Rattle.depth_core.proofs.levels.try_fence.Goals as goal

pub try_subproblem-requires-clause-coding : goal.try_subproblem-requires-clause-coding
try_subproblem-requires-clause-coding g c = coded_by_fences c.args.header.now.method c.requires.by_fences

pub returns : goal.returns
returns g c = tried_low c.args.header.now c.args.size c.args.subproblem _ c.requires.subproblem c.in_ok-outcome.ensures
