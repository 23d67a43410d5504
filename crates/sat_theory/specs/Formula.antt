-- Formulas in conjunctive normal form, and what satisfies them.
use Rattle.std.specs.Prelude.{◌≡◌, ◌≢◌, ℕ, suc, ◌-◌, ◌<◌, ◌≤◌, ◌==◌, if◌then◌else◌, ℤ, pos, negsuc, neg_ℤ, unsigned_abs}
use Rattle.std.specs.Prelude.{Bool, true, false, not, slice_index_or, List, All, Any, AllPairs}

-- A literal is a variable with a sign, written as a number other than 0 as in DIMACS: 3 says that
-- variable 3 is true, and -3 that it is false. Variables are numbered from 1.
abbrev pub variable : ℤ → ℕ
variable l = unsigned_abs l

-- the same variable with the other sign
abbrev pub opposite : ℤ → ℤ
opposite l = neg_ℤ l

-- the literal of a variable and a sign
abbrev pub signed : ℕ → Bool → ℤ
signed v positive = if positive then pos v else neg_ℤ (pos v)

-- A clause is a list of literals of different variables; it says that at least one of them is true.
-- Example: 1, -2 is a clause; 1, -1 and 1, 0 aren't.
pub record IsClause (lits : List ℤ) : Type 0 where
  pub literals : All (λ l. 0 < variable l) lits
  pub differ : AllPairs (λ l m. variable l ≢ variable m) lits

-- all variables are 1 to vars
abbrev pub IsWithin : ℕ → List ℤ → Type 0
IsWithin vars lits = All (λ l. variable l ≤ vars) lits

-- A formula (CNF) over the variables 1 to vars: it says that all its clauses are true.
-- Example: over the variables 1 and 2 the clauses 1, 2 and -1, 2 and 1, -2 and -1, -2 are
-- unsatisfiable, and any three of them are satisfiable.
pub record Formula : Type 0 where
  pub vars : ℕ
  pub clauses : List (List ℤ)

pub record IsFormula (f : Formula) : Type 0 where
  pub clauses : All IsClause f.clauses
  pub variables : All (IsWithin f.vars) f.clauses

-- an assignment gives each variable a bit
abbrev pub Assignment : Type 0
Assignment = ℕ → Bool

-- bit v - 1 of a list is that of variable v; the bits after the end of the list are 0
abbrev pub bits_of : List Bool → Assignment
bits_of bits v = if v == 0 then false else slice_index_or bits (v - 1) false

abbrev pub literal_value : Assignment → ℤ → Bool
literal_value v (pos n) = v n
literal_value v (negsuc n) = not (v (suc n))

-- a clause is true if one of its literals is, so the empty clause is never true
unfoldable pub IsTrueClause : Assignment → List ℤ → Type 0
IsTrueClause v lits = Any (λ l. literal_value v l ≡ true) lits

abbrev pub Satisfies : Assignment → Formula → Type 0
Satisfies v f = All (IsTrueClause v) f.clauses
