use Rattle.std.proofs.Common.{◌≡◌, ℕ, ◌+◌, ◌≤◌, length}
use Rattle.net_levels.specs.Levels.{levels_after}
use Rattle.net_levels.specs.LevelRows.{row_levels}
use Rattle.net_levels.proofs.node_levels.levels_into.Given as goal

abbrev pub invariant-loop-gate : goal.invariant-loop-gate
invariant-loop-gate l = record {
  room : l.node + length l.left ≡ length l.levels;
  size : length l.levels ≡ length l.initial.levels;
  low : (p : ℕ) → row_levels l.levels p ≤ l.node;
  same : levels_after (row_levels l.levels) l.node l.left ≡ levels_after (row_levels l.initial.levels) l.first l.gates;
}

abbrev pub decreases-loop-gate : goal.decreases-loop-gate
decreases-loop-gate l = length l.left
