-- A clause during simplification: its literals so far, and the signs of their variables.
use Rattle.std.specs.Prelude.{◌≡◌, ℕ, ◌+◌, ◌≤◌, ◌<◌, ℤ, Bool, true, false, not, List, Option, Some, None, All, length, slice_index_or, if◌then◌else◌}
use Rattle.sat_theory.specs.Formula.{signed, variable, Formula, IsFormula}
use Rattle.clause_core.specs.declared.raw.RawLit.{RawLit}
use Rattle.clause_core.specs.Clauses.{has, simplified}

-- the result for the literals so far and the raw ones still to come, or None if the clause was found to be a
-- tautology
abbrev pub going : Bool → List ℤ → List RawLit → Option (List ℤ)
going true lits raws = simplified lits raws
going false lits raws = None

-- the literals, or None for a tautology
abbrev pub found : Bool → List ℤ → Option (List ℤ)
found true lits = Some lits
found false lits = None

abbrev pub same_bit : Bool → Bool → Bool
same_bit a b = if a then b else not b

-- the variable occurs with this sign
abbrev pub is_known : Option Bool → Bool → Bool
is_known None bit = false
is_known (Some known) bit = same_bit known bit

-- `seen` has the signs of the literals' variables, and None for all other variables
pub record IsSeen (seen : List (Option Bool)) (lits : List ℤ) : Type 0 where
  pub known : (v : ℕ) (bit : Bool) → 1 ≤ v → v < length seen → has lits (signed v bit) ≡ is_known (slice_index_or seen v None) bit
  pub zero : slice_index_or seen 0 None ≡ None
  pub within : All (λ l. variable l < length seen) lits

-- no variable has a sign
pub record IsBlank (seen : List (Option Bool)) : Type 0 where
  pub none : (v : ℕ) → slice_index_or seen v None ≡ None

-- a growing formula with fewer variables than 32 bits can number, and a table entry for each
pub record HoldsList (f : Formula) (seen : List (Option Bool)) : Type 0 where
  pub formula : IsFormula f
  pub few : f.vars < 1000000000
  pub room : length seen ≡ f.vars + 1
  pub blank : IsBlank seen
