-- Of the logs so far those of fences with fewer levels are kept.
use Rattle.std.proofs.Common.{◌≡◌}
use Rattle.std.specs.List.{filter}
use Rattle.depth_core.specs.Flattened.{is_flatter}
use Rattle.depth_core.proofs.levels.flatter_than.Given as goal

abbrev pub invariant-loop-log : goal.invariant-loop-log
invariant-loop-log l = l.kept.items ≡ filter (is_flatter l.levels) l.yielded
