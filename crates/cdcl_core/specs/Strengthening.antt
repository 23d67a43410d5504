-- The invariant while clauses of the formula are strengthened, and what is unchanged by it.
use Rattle.std.specs.Prelude.{◌≡◌, ◌≢◌, ℕ, ◌≤◌, ℤ, Bool, List, [], length, max, Contains, All, Some, IsSome}
use Rattle.clause_db.specs.Stored.{live_in}
use Rattle.subsume_core.specs.Units.{IsUnitsOf}
use Rattle.cdcl_core.specs.declared.search.Search.{Search}
use Rattle.cdcl_core.specs.Searching.{IsSearching, IsIrredundant}

-- no variable has a value
pub record IsUnassigned (s : Search) : Type 0 where
  pub searching : IsSearching s
  pub empty : s.trail.lits ≡ []
  pub bottom : s.starts.items ≡ []
  pub head : s.head ≡ 0

-- A search in which no variable has a value and no clause is empty, with the flags of its unit clauses; the
-- last addition is a strengthened clause, or there is none of these.
pub record IsStrengthening (s : Search) (flags : List Bool) : Type 0 where
  pub unassigned : IsUnassigned s
  pub full : (id : ℕ) → live_in s.clauses id ≡ Some [] → ⊥
  pub units : IsUnitsOf s.clauses flags
  pub high : s.shorter.high ≡ length s.clauses.clauses

-- the irredundant clause with the id `by` is live and subsumes that of `id`, a live one of the formula
pub record CanReplace (s : Search) (by id : ℕ) : Type 0 where
  pub apart : by ≢ id
  pub given : id ≤ s.given
  pub stays : IsIrredundant s by
  pub id_live : IsSome (live_in s.clauses id)
  pub by_live : IsSome (live_in s.clauses by)
  pub inside : (clause cover : List ℤ) → live_in s.clauses id ≡ Some clause → live_in s.clauses by ≡ Some cover → All (Contains clause) cover

-- what strengthening keeps unchanged
pub record KeepsLimits (old new : Search) : Type 0 where
  pub vars : new.trail.vars ≡ old.trail.vars
  pub given : new.given ≡ old.given
  pub least : new.least ≡ old.least

-- Clauses may have been deleted from the search; the ids, which clauses are irredundant, and the limits are
-- the same.
pub record HasRemoved (old new : Search) : Type 0 where
  pub limits : KeepsLimits old new
  pub db_vars : new.clauses.vars ≡ old.clauses.vars
  pub shorter : new.shorter ≡ old.shorter
  pub clauses : length new.clauses.clauses ≡ length old.clauses.clauses
  pub fewer : (id : ℕ) (clause : List ℤ) → live_in new.clauses id ≡ Some clause → live_in old.clauses id ≡ Some clause

-- The last clause is irredundant, and so are those that were.
pub record HasAdded (old new : Search) : Type 0 where
  pub limits : KeepsLimits old new
  pub low : new.shorter.low ≡ old.shorter.low
  pub high : new.shorter.high ≡ length new.clauses.clauses

-- Clauses with ids up to `end` may have been added.
pub record HasStrengthened (end : ℕ) (old new : Search) : Type 0 where
  pub limits : KeepsLimits old new
  pub more : length old.clauses.clauses ≤ length new.clauses.clauses
  pub few : length new.clauses.clauses ≤ max (length old.clauses.clauses) end
