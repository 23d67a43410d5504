-- A set of literals as a time stamp for each literal: a literal is in the set if its stamp is the current one.
use Rattle.std.specs.Prelude.{◌≡◌, ℕ, ◌+◌, ◌*◌, ◌≤◌, ◌<◌, ◌==◌, ℤ, Bool, List, length, slice_index_or, All, Option, Some}
use Rattle.sat_theory.specs.Formula.{variable}
use Rattle.cnf_core.specs.Codes.{code_of}

pub record Stamped : Type 0 where
  pub stamps : List ℕ
  pub time : ℕ

-- no stamp is greater than the current one, which isn't 0, the stamp of literals that were never added
pub record AreStamps (m : Stamped) : Type 0 where
  pub past : All (λ s. s ≤ m.time) m.stamps
  pub begun : 0 < m.time

unfoldable pub marked : Stamped → ℤ → Bool
marked m l = slice_index_or m.stamps (code_of l) 0 == m.time

-- there are stamps for the literals of the variables 1 to vars
abbrev pub HasRoom : Stamped → ℕ → Type 0
HasRoom m vars = length m.stamps ≡ 2 * vars + 2

-- there are stamps for a literal and for its opposite
abbrev pub HasStamps : Stamped → ℤ → Type 0
HasStamps m l = 2 * variable l + 2 ≤ length m.stamps

-- there are for the literals of all clauses
pub record HaveStamps (m : Stamped) (live : ℕ → Option (List ℤ)) : Type 0 where
  pub each : (id : ℕ) (clause : List ℤ) → live id ≡ Some clause → All (HasStamps m) clause
