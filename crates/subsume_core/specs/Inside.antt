-- Clauses inside a list of literals: those that subsume it.
use Rattle.std.specs.Prelude.{◌≡◌, ℕ, ℤ, Bool, false, List, Contains, All, Some}
use Rattle.cdcl_theory.specs.Codes.{marked_in}
use Rattle.clause_db.specs.Stored.{Stored, live_in, Watches}

-- the clause with this id, if it is live, isn't inside a list
pub record NotInside (s : Stored) (lits : List ℤ) (id : ℕ) : Type 0 where
  pub not_inside : (clause : List ℤ) → live_in s id ≡ Some clause → All (Contains lits) clause → ⊥

-- no clause that watches a literal is inside a list
pub record NoneWatching (s : Stored) (lits : List ℤ) (l : ℤ) : Type 0 where
  pub none : (id : ℕ) → Watches s id l → NotInside s lits id

-- A literal of a list is no unit clause, and no clause that watches it is inside the list.
pub record IsApart (s : Stored) (flags : List Bool) (lits : List ℤ) (l : ℤ) : Type 0 where
  pub no_unit : marked_in flags l ≡ false
  pub none_watching : NoneWatching s lits l
