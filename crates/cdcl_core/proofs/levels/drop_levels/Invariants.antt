use Rattle.std.proofs.Common.{ℕ, ◌<◌, ◌≤◌, length, slice_index_or}
use Rattle.cdcl_core.proofs.levels.drop_levels.Given as goal

abbrev pub invariant-loop-keep : goal.invariant-loop-keep
invariant-loop-keep l = record {
  inside : l.keep < length l.starts.items;
  high : (d : ℕ) → l.back ≤ slice_index_or l.starts.items l.keep d;
}

abbrev pub decreases-loop-keep : goal.decreases-loop-keep
decreases-loop-keep l = l.keep
