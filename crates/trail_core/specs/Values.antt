-- Which variables have a value on a trail, and the assignment of these values.
use Rattle.std.specs.Prelude.{◌≡◌, ℕ, ◌<◌, ◌≤◌, ◌⊎◌, ℤ, pos, Bool, true, false, List, length}
use Rattle.sat_theory.specs.Formula.{variable, opposite, bits_of, literal_value}
use Rattle.cdcl_theory.specs.Trails.{TrailState, falsified_at}

-- l is a literal of the variables 1 to vars
abbrev pub IsOver : ℕ → ℤ → Type 0
IsOver vars l = (0 < variable l) × (variable l ≤ vars)

-- the variable of l has no value
abbrev pub IsFree : TrailState → ℤ → Type 0
IsFree t l = (falsified_at t l ≡ 0) × (falsified_at t (opposite l) ≡ 0)

-- each variable below v has a value
abbrev pub HaveValues : TrailState → ℕ → Type 0
HaveValues t v = (l : ℤ) → 0 < variable l → variable l < v → (0 < falsified_at t l) ⊎ (0 < falsified_at t (opposite l))

-- each literal whose opposite is false is true, and a variable without a value is false
pub record Follows (t : TrailState) (bits : List Bool) : Type 0 where
  pub long : length bits ≡ t.vars
  pub values : (l : ℤ) → IsOver t.vars l → 0 < falsified_at t (opposite l) → literal_value (bits_of bits) l ≡ true
  pub others : (v : ℕ) → 0 < v → v ≤ t.vars → IsFree t (pos v) → bits_of bits v ≡ false
