-- The greatest of the levels so far.
use Rattle.std.proofs.Common.{◌≡◌, take}
use Rattle.chain_core.proofs.Depths.{greatest_of}
use Rattle.chain_core.proofs.step_levels.depth_of.Given as goal

abbrev pub invariant-loop-level : goal.invariant-loop-level
invariant-loop-level l = l.deepest ≡ greatest_of (take l.level-index l.level-items)
