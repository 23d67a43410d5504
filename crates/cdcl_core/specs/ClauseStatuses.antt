-- The status of a clause under the values of a trail.
use Rattle.std.specs.Prelude.{◌≡◌, ℕ, ◌<◌, ◌⊎◌, ℤ, List, Contains, All}
use Rattle.sat_theory.specs.Formula.{opposite}
use Rattle.cdcl_theory.specs.Propagation.{IsSettled}
use Rattle.cdcl_core.specs.declared.judgement.ClauseStatus.{ClauseStatus}
use Rattle.cdcl_core.specs.declared.judgement.ClauseStatus.TheVariants.{Settled, Unit, Falsified}

-- the clause is unit: l has no value, and all other literals are false
pub record IsUnit (falsified_at : ℤ → ℕ) (lits : List ℤ) (l : ℤ) : Type 0 where
  pub there : Contains lits l
  pub up : falsified_at l ≡ 0
  pub down : falsified_at (opposite l) ≡ 0
  pub others : All (λ m. (m ≡ l) ⊎ (0 < falsified_at m)) lits

abbrev pub IsStatusOf : (ℤ → ℕ) → List ℤ → ClauseStatus → Type 0
IsStatusOf falsified_at lits Settled = IsSettled falsified_at lits
IsStatusOf falsified_at lits (Unit l) = IsUnit falsified_at lits l
IsStatusOf falsified_at lits Falsified = All (λ m. 0 < falsified_at m) lits
