use Rattle.std.proofs.Common.{◌≡◌, ℕ, ◌<◌, negsuc, length, Bool, slice_index_or, nat_lt}
use Rattle.cdcl_theory.specs.Trails.{falsified_at}
use Rattle.trail_core.proofs.trail.Trail.assignment.Given as goal

abbrev pub invariant-loop-index : goal.invariant-loop-index
invariant-loop-index l = record {
  long : length l.bits.items ≡ l.index;
  bits : (k : ℕ) (d : Bool) → k < l.index → slice_index_or l.bits.items k d ≡ nat_lt 0 (falsified_at l.self (negsuc k));
}
