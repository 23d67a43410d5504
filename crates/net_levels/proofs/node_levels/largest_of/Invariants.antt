use Rattle.std.proofs.Common.{◌≡◌, length}
use Rattle.std.specs.Prelude.{max}
use Rattle.net_levels.specs.Levels.{largest}
use Rattle.net_levels.specs.LevelRows.{row_levels}
use Rattle.net_levels.proofs.node_levels.largest_of.Given as goal

abbrev pub invariant-loop-sink : goal.invariant-loop-sink
invariant-loop-sink l = max l.most (largest (row_levels l.levels) l.left) ≡ largest (row_levels l.levels) l.sinks

abbrev pub decreases-loop-sink : goal.decreases-loop-sink
decreases-loop-sink l = length l.left
