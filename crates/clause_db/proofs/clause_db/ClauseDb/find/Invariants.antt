use Rattle.std.proofs.Common.{◌≡◌, ◌-◌, ◌<◌, ℕ, slice_index_or}
use Rattle.clause_db.specs.Watching.{list_of}
use Rattle.clause_db.proofs.clause_db.ClauseDb.find.Given as goal

abbrev pub invariant-loop-index : goal.invariant-loop-index
invariant-loop-index l = record {
  inside : l.index < l.count;
  before : (k : ℕ) → k < l.index → slice_index_or (list_of l.self.watches l.lit) k 0 ≡ l.id → ⊥;
}

abbrev pub decreases-loop-index : goal.decreases-loop-index
decreases-loop-index l = l.count - l.index
