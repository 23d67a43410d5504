-- The watch invariant of a search.
use Rattle.std.specs.Prelude.{◌≡◌, ℕ, ◌<◌, ◌≤◌, ℤ, List, length, Contains, All, Some}
use Rattle.sat_theory.specs.Formula.{opposite}
use Rattle.cdcl_theory.specs.Propagation.{IsFalsifiedUpTo}
use Rattle.clause_db.specs.Stored.{Stored, live_in, Watches}

-- a literal of the clause is true
pub record HasTrue (falsified_at : ℤ → ℕ) (clause : List ℤ) : Type 0 where
  pub lit : ℤ
  pub there : Contains clause lit
  pub on : 0 < falsified_at (opposite lit)

-- A literal of the clause is true, and no level begins between the falsification of w and its assignment:
-- backtracking that unassigns it unassigns w too.
pub record IsBacked (falsified_at : ℤ → ℕ) (starts : List ℕ) (clause : List ℤ) (w : ℤ) : Type 0 where
  pub lit : ℤ
  pub there : Contains clause lit
  pub on : 0 < falsified_at (opposite lit)
  pub together : All (λ s. falsified_at w ≤ s → falsified_at (opposite lit) ≤ s) starts

-- A literal of the clause is true at level 0.
pub record IsTrueAtRoot (falsified_at : ℤ → ℕ) (starts : List ℕ) (clause : List ℤ) : Type 0 where
  pub lit : ℤ
  pub there : Contains clause lit
  pub on : 0 < falsified_at (opposite lit)
  pub bottom : All (λ s. falsified_at (opposite lit) ≤ s) starts

-- The trail literals before `head` are propagated: if one of them makes a watched literal false, the clause
-- that watches it has a true literal, which is unassigned no earlier. Unit clauses are true at level 0, and
-- no clause is empty. The levels begin at `starts`.
-- Example: the clause 1, 2, 3 watches 1 and 2. While both aren't false nothing is required. Once 1 is false
-- and that is propagated, 2 or 3 is true, or the clause watches 3 instead.
pub record KeepsWatchInvariant (s : Stored) (falsified_at : ℤ → ℕ) (starts : List ℕ) (head : ℕ) : Type 0 where
  pub long : (id : ℕ) (w : ℤ) (clause : List ℤ) → Watches s id w → live_in s id ≡ Some clause → IsFalsifiedUpTo falsified_at head w → IsBacked falsified_at starts clause w
  pub short : (id : ℕ) (clause : List ℤ) → live_in s id ≡ Some clause → length clause < 2 → IsTrueAtRoot falsified_at starts clause

-- the clause with this id has a true literal
abbrev pub HasTrueAt : Stored → (ℤ → ℕ) → ℕ → Type 0
HasTrueAt s falsified_at id = (clause : List ℤ) → live_in s id ≡ Some clause → HasTrue falsified_at clause
