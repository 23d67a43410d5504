use Rattle.std.proofs.Common.{◌≡◌, ◌-◌, ◌<◌, ℕ, ℤ, length, slice_index_or}
use Rattle.clause_db.proofs.watches.find.Given as goal

abbrev pub invariant-loop-place : goal.invariant-loop-place
invariant-loop-place l = record {
  inside : l.place < length l.lits;
  before : (k : ℕ) (d : ℤ) → k < l.place → slice_index_or l.lits k d ≡ l.lit → ⊥;
}

abbrev pub decreases-loop-place : goal.decreases-loop-place
decreases-loop-place l = length l.lits - l.place
