-- The outcomes of a visit of a clause.
use Rattle.std.specs.Prelude.{◌≡◌, ℕ, ◌<◌, ◌≤◌, ◌⊎◌, ℤ, List, slice_index_or}
use Rattle.sat_theory.specs.Formula.{opposite}
use Rattle.cdcl_theory.specs.Propagation.{IsFalsified}
use Rattle.cdcl_theory.specs.Trails.{TrailState, falsified_at, IsGrown}
use Rattle.clause_db.specs.Watching.{list_of}
use Rattle.clause_db.specs.Stored.{Stored, live_in, Watches, rewatched}
use Rattle.clause_db.specs.Moving.{IsMovable}
use Rattle.clause_db.specs.declared.lists.Watch.{Watch}
use Rattle.cdcl_core.specs.WatchInvariant.{HasTrueAt}
use Rattle.cdcl_core.specs.declared.visiting.Visited.{Visited}
use Rattle.cdcl_core.specs.declared.visiting.Visited.TheVariants.{Kept, Moved, Falsified}

-- the id at an index in the watch list of a literal
abbrev pub id_at : Stored → ℤ → ℕ → ℕ
id_at s l index = slice_index_or (list_of s.watches l) index 0

-- the literals at the indices from low to high are false
abbrev pub AreFalse : TrailState → List ℤ → ℕ → ℕ → Type 0
AreFalse t lits low high = (k : ℕ) (d : ℤ) → low ≤ k → k < high → 0 < falsified_at t (slice_index_or lits k d)

-- the blocking literals at the indices from low to high are true
abbrev pub AreTrue : TrailState → List Watch → ℕ → ℕ → Type 0
AreTrue t watches low high = (k : ℕ) (d : Watch) → low ≤ k → k < high → 0 < falsified_at t (opposite (slice_index_or watches k d).blocker)

-- The clause keeps its watch, and has a true literal now.
pub record KeepsWatch (a b : Stored) (s t : TrailState) (l : ℤ) (index : ℕ) : Type 0 where
  pub same : b ≡ a
  pub grown : IsGrown (live_in b) s t
  pub on : HasTrueAt b (falsified_at t) (id_at b l index)

-- The clause watches another literal, which isn't false.
pub record IsMoved (a b : Stored) (s t : TrailState) (l : ℤ) (index : ℕ) : Type 0 where
  pub same : t ≡ s
  pub to : ℤ
  pub movable : IsMovable a (id_at a l index) l to index
  pub up : falsified_at s to ≡ 0
  pub is : b ≡ rewatched a (id_at a l index) l to index

-- The clause with this id is falsified.
pub record IsFound (a b : Stored) (s t : TrailState) (id : ℕ) : Type 0 where
  pub same : b ≡ a
  pub same_trail : t ≡ s
  pub falsified : IsFalsified (live_in b) (falsified_at t) id

abbrev pub IsFate : Stored → Stored → TrailState → TrailState → ℤ → ℕ → Visited → Type 0
IsFate a b s t l index Kept = KeepsWatch a b s t l index
IsFate a b s t l index Moved = IsMoved a b s t l index
IsFate a b s t l index (Falsified id) = IsFound a b s t id

-- The clauses are unchanged, the trail was extended, and each watch is an old one or its literal wasn't false
-- before.
pub record IsRest (a b : Stored) (s t : TrailState) : Type 0 where
  pub clauses : b.clauses ≡ a.clauses
  pub vars : b.vars ≡ a.vars
  pub grown : IsGrown (live_in b) s t
  pub moved : (id : ℕ) (w : ℤ) → Watches b id w → Watches a id w ⊎ (falsified_at s w ≡ 0)
