use Rattle.std.proofs.Common.{ℕ, ◌≤◌, ◌<◌, length}
use Rattle.std.specs.Prelude.{slice_index_or}
use Rattle.window_core.proofs.ascending.rank.Given as goal

abbrev pub invariant-loop-count : goal.invariant-loop-count
invariant-loop-count l = record {
  within : l.count ≤ length l.nodes;
  above : (k d : ℕ) → l.count ≤ k → k < length l.nodes → l.node < slice_index_or l.nodes k d;
}

abbrev pub decreases-loop-count : goal.decreases-loop-count
decreases-loop-count l = l.count
