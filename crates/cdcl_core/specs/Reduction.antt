-- Reduction of the clause database (deletion of learnt clauses).
use Rattle.std.specs.Prelude.{◌≡◌, ◌⊎◌, ℕ, ◌+◌, ◌-◌, ◌*◌, ◌<◌, ◌≤◌, ℤ, List, [], ◌∷◌, ◌++◌, length, slice_index_or, Some, IsSome}
use Rattle.sat_theory.specs.Formula.{Formula, opposite}
use Rattle.sat_theory.specs.Line as theory
use Rattle.cdcl_theory.specs.Trails.{TrailState, HasReason, reason_of, falsified_at}
use Rattle.clause_db.specs.Stored.{live_in}
use Rattle.clause_db.specs.Deleting.{IsDeleted}
use Rattle.cdcl_core.specs.declared.search.Search.{Search}
use Rattle.cdcl_core.specs.Searching.{IsLog, IsLogged, IsIrredundant}
use Rattle.sat_theory.specs.Limits.{slack}

-- the lines, followed by one that deletes the ids, if there are any
abbrev pub with_deletion : List theory.Line → ℕ → List ℕ → List theory.Line
with_deletion lines own [] = lines
with_deletion lines own (id ∷ ids) = lines ++ theory.Delete own (id ∷ ids) ∷ []

-- With a further line that deletes the ids of `gone`, the log is that of the live clauses.
pub record IsPending (f : Formula) (s : Search) (gone : List ℕ) : Type 0 where
  pub log : IsLog f s.clauses (with_deletion s.lines (length s.clauses.clauses) gone) s.deleted s.least
  pub given : s.given ≡ length f.clauses

-- a literal is true, and the clause with this id is its reason
abbrev pub IsImplied : TrailState → ℕ → ℤ → Type 0
IsImplied t id l = (0 < falsified_at t (opposite l)) × (reason_of t l ≡ id)

-- none of the first n literals is true with this clause as its reason
abbrev pub NoneImplied : TrailState → List ℤ → ℕ → ℕ → Type 0
NoneImplied t lits n id = (k : ℕ) (d : ℤ) → k < n → k < length lits → IsImplied t id (slice_index_or lits k d) → ⊥

-- some literal is true with this clause as its reason
pub record SomeImplied (t : TrailState) (id : ℕ) : Type 0 where
  pub literal : ℤ
  pub implied : IsImplied t id literal

-- the clause with this id is the reason of a trail literal
pub record IsReason (s : Search) (id : ℕ) : Type 0 where
  pub place : ℕ
  pub low : place < length s.trail.lits
  pub is : (d : ℤ) → reason_of s.trail (slice_index_or s.trail.lits place d) ≡ id

-- the clause with this id is the reason of no trail literal
pub record IsNoReason (s : Search) (id : ℕ) : Type 0 where
  pub none : (p : ℕ) (d : ℤ) → p < length s.trail.lits → HasReason (live_in s.clauses) s.trail p → reason_of s.trail (slice_index_or s.trail.lits p d) ≡ id → ⊥

-- After one more deletion at least half of all additions, or of `least`, are still not deleted.
abbrev pub HasHalf : Search → Type 0
HasHalf s = (2 * (s.deleted + 1) ≤ s.least) ⊎ (2 * (s.deleted + 1) + s.given ≤ length s.clauses.clauses)

-- The clause with this id is live, is an addition, is redundant (replaces no clause of the formula) and is no
-- reason, and its deletion keeps half.
pub record MayDelete (s : Search) (id : ℕ) : Type 0 where
  pub learnt : s.given < id
  pub redundant : IsIrredundant s id → ⊥
  pub half : HasHalf s
  pub is_live : IsSome (live_in s.clauses id)
  pub reason : IsNoReason s id

-- the log has too many live additions for its end: more additions than four times the deleted ones, the
-- variables and 2000 together
abbrev pub ExceedsFinalBound : Search → Type 0
ExceedsFinalBound s = s.given + 4 * (s.deleted + s.clauses.vars + slack) < length s.clauses.clauses

-- too many additions are live for that bound (`ExceedsFinalBound`) during a search, when the irredundant ones, which are
-- never deleted, don't count
abbrev pub ExceedsBound : Search → Type 0
ExceedsBound s = s.given + (s.shorter.high - s.shorter.low) + 4 * (s.deleted + s.clauses.vars + slack) < length s.clauses.clauses

-- The live additions are within that bound, if the log is one of a formula.
pub record IsBounded (s : Search) : Type 0 where
  pub few : (f : Formula) → IsLogged f s → ExceedsBound s → ⊥

-- a clause that can't be deleted even if too many are live: it is irredundant, or a reason
abbrev pub IsUndeletable : Search → ℕ → Type 0
IsUndeletable s id = IsIrredundant s id ⊎ IsReason s id

-- One clause was deleted from the search, and nothing else changed.
pub record HasDeletedOne (id : ℕ) (old new : Search) : Type 0 where
  pub deleted : IsDeleted id old.clauses new.clauses
  pub rest : new ≡ record old { clauses = new.clauses; deleted = old.deleted + 1 }

-- Clauses may have been deleted, and nothing else changed but the log and the counters.
pub record HasReduced (old new : Search) : Type 0 where
  pub trail : new.trail ≡ old.trail
  pub starts : new.starts ≡ old.starts
  pub head : new.head ≡ old.head
  pub given : new.given ≡ old.given
  pub least : new.least ≡ old.least
  pub shorter : new.shorter ≡ old.shorter
  pub clauses : length new.clauses.clauses ≡ length old.clauses.clauses
  pub fewer : (id : ℕ) (clause : List ℤ) → live_in new.clauses id ≡ Some clause → live_in old.clauses id ≡ Some clause

-- at most one line was added, a deletion
pub record MoreDeleted (old new : List theory.Line) : Type 0 where
  pub own : ℕ
  pub ids : List ℕ
  pub is : new ≡ with_deletion old own ids
