use Rattle.std.proofs.Common.{◌≡◌, ◌+◌, ◌-◌, map}
use Rattle.std.specs.List.{range_with_len}
use Rattle.chain_core.specs.SliceLevels.{slice_levels}
use Rattle.chain_core.proofs.step_levels.levels.Given as goal

abbrev pub invariant-loop-place : goal.invariant-loop-place
invariant-loop-place l = l.levels.items ≡ map (slice_levels l.of_places) (range_with_len (l.n + 1) (l.place - (l.n + 1)))
