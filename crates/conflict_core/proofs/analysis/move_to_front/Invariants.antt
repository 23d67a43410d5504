use Rattle.std.proofs.Common.{◌≡◌, ◌≢◌, ◌<◌, ℕ, ℤ, slice_index_or}
use Rattle.cdcl_theory.specs.Trails.{falsified_at}
use Rattle.conflict_core.proofs.analysis.move_to_front.Given as goal

abbrev pub invariant-loop-index : goal.invariant-loop-index
invariant-loop-index l = record {
  same : l.lits.items ≡ l.initial.lits.items;
  none : (k : ℕ) (d : ℤ) → k < l.index → falsified_at l.trail (slice_index_or l.lits.items k d) ≢ l.back;
}
