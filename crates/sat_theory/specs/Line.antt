-- The lines of a refutation log (LRAT with RUP additions and deletions).
use Rattle.std.specs.Prelude.{ℕ, ◌<◌, ◌^◌, ◌-◌, ℤ, List, All}
use Rattle.sat_theory.specs.Formula.{IsClause, IsWithin}

-- Clauses have numbers, their ids. An addition adds the clause of its literals with its id; its hints (LRAT's
-- antecedents) are the ids of the clauses by which unit propagation derives it. A deletion removes the clauses of
-- its ids; its own id has no meaning.
pub data Line : Type 0 where
  Add : (id : ℕ) (lits : List ℤ) (hints : List ℕ) → Line
  Delete : (id : ℕ) (ids : List ℕ) → Line

-- the range of ids
abbrev pub IsId : ℕ → Type 0
IsId id = (0 < id) × (id < 2 ^ 32)

pub record IsAddition (id : ℕ) (lits : List ℤ) (hints : List ℕ) : Type 0 where
  pub own_id : IsId id
  pub clause : IsClause lits
  pub variables : IsWithin (2 ^ 31 - 1) lits
  pub hint_ids : All IsId hints

pub record IsDeletion (id : ℕ) (ids : List ℕ) : Type 0 where
  pub own_id : IsId id
  pub deleted_ids : All IsId ids

-- a line that can be written: its ids and literals are in range
abbrev pub IsLine : Line → Type 0
IsLine (Add id lits hints) = IsAddition id lits hints
IsLine (Delete id ids) = IsDeletion id ids

-- the line is an addition
abbrev pub IsAdding : Line → Type 0
IsAdding (Add id lits hints) = Unit {0}
IsAdding (Delete id ids) = ⊥

-- the literals of an addition are of different variables
abbrev pub HasClause : Line → Type 0
HasClause (Add id lits hints) = IsClause lits
HasClause (Delete id ids) = Unit {0}

pub line-HasClause : (l : Line) → IsLine l → HasClause l
line-HasClause (Add id lits hints) is = is.clause
line-HasClause (Delete id ids) is = tt
