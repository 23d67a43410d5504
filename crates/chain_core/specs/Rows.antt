-- The first row on which a chain misses one output.
use Rattle.std.specs.Prelude.{◌≡◌, ℕ, ◌<◌, ◌^◌, true, false, Option, Some, None}
use Rattle.chain_theory.specs.Specification.{Specification}
use Rattle.chain_theory.specs.Chain.{Chain}
use Rattle.chain_theory.specs.Agreement.{is_met, output_value}

-- no row below t misses the output
abbrev pub AreMetBelow : Chain → Specification → ℕ → ℕ → Type 0
AreMetBelow c s h t = (u : ℕ) → u < t → is_met (s.cell h u) (output_value c h u) ≡ true

-- None: no row misses the output; Some: the least row that does
abbrev pub IsFirstRow : Chain → Specification → ℕ → Option ℕ → Type 0
IsFirstRow c s h None = AreMetBelow c s h (2 ^ s.inputs)
IsFirstRow c s h (Some t) = (t < 2 ^ s.inputs) × (is_met (s.cell h t) (output_value c h t) ≡ false) × AreMetBelow c s h t
