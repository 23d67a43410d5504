-- The live clauses by their ids, as a finite map.
use Rattle.std.specs.Prelude.{◌≡◌, ℕ, ℤ, List, Option, Some}
use Rattle.sat_theory.specs.Formula.{IsClause, IsWithin}
use Rattle.std.specs.Ordering.{nat_cmp}
use Rattle.std.specs.FinMap as map
use Rattle.std.specs.Coded.{Coded, coded_ℕ, coded_ℤ, coded_list}

abbrev pub Live : Type 0
Live = map.FinMap nat_cmp (List ℤ)

abbrev pub live_code : Coded Live
live_code = map.code coded_ℕ (coded_list coded_ℤ)

-- the clause with an id
abbrev pub live_at : Live → ℕ → Option (List ℤ)
live_at live id = map.get live id

-- all clauses are over the variables 1 to vars
pub record AreWithin (vars : ℕ) (live : ℕ → Option (List ℤ)) : Type 0 where
  pub each : (id : ℕ) (clause : List ℤ) → live id ≡ Some clause → IsWithin vars clause

-- all live clauses are clauses: each has different variables
pub record AreClauses (live : ℕ → Option (List ℤ)) : Type 0 where
  pub each : (id : ℕ) (clause : List ℤ) → live id ≡ Some clause → IsClause clause
