-- The value of a place on a row.
use Rattle.std.specs.Prelude.{ℕ, ◌+◌, ◌==◌, if◌then◌else◌, Bool, true, false, List, [], ◌∷◌}
use Rattle.chain_theory.specs.Operator.{apply}
use Rattle.chain_theory.specs.Specification.{input}
use Rattle.chain_theory.specs.Chain.{Step, Chain}
use Rattle.chain_theory.specs.declared.data.Out.{Out}
use Rattle.chain_theory.specs.declared.data.Out.TheVariants.{Zero, One, Place}

-- the bits of the places, changed at one place
abbrev pub extended : (ℕ → Bool) → ℕ → Bool → ℕ → Bool
extended bits place bit p = if p == place then bit else bits p

-- a step's operator on the values of its two operands
abbrev pub step_value : (ℕ → Bool) → Step → Bool
step_value bits s = apply s.op (bits s.j) (bits s.k)

-- The bits after a list of steps, the first of which is at the given place.
unfoldable pub values_after : (ℕ → Bool) → ℕ → List Step → ℕ → Bool
values_after bits place [] = bits
values_after bits place (s ∷ ss) = values_after (extended bits place (step_value bits s)) (place + 1) ss

-- the value of a place on row t, in a chain of these steps over n inputs
abbrev pub values_on : ℕ → ℕ → List Step → ℕ → Bool
values_on n t steps = values_after (input n t) (n + 1) steps

-- The value of an input's place is the input's bit. The value of a step's place is its operator on
-- the values of its operands (`values_of_places` says so without recursion).
-- Example: the XOR chain has on row 1, which is 01, the values 0, 1 and 1 at the places 1, 2 and 3.
abbrev pub value : Chain → ℕ → ℕ → Bool
value c t place = values_on c.n t c.steps place

-- the value of an out: the constants 0 and 1, or that of its place
abbrev pub out_value : Chain → ℕ → Out → Bool
out_value c t Zero = false
out_value c t One = true
out_value c t (Place p) = value c t p
