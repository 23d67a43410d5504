use Rattle.std.proofs.Common.{◌≡◌, ℕ, ℤ, ◌<◌, true, List, All, slice_index_or}
use Rattle.cdcl_theory.specs.Codes.{marked_in}
use Rattle.clause_db.specs.Watching.{list_of}
use Rattle.subsume_core.specs.Inside.{NotInside}
use Rattle.subsume_core.proofs.newness.none_watching.Given as goal

abbrev pub invariant-loop-index : goal.invariant-loop-index
invariant-loop-index l = (lits : List ℤ) → All (λ m. marked_in l.marks m ≡ true) lits → (k : ℕ) → k < l.index → NotInside l.clauses lits (slice_index_or (list_of l.clauses.watches l.lit) k 0)
