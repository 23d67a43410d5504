-- The first cell that a chain misses.
use Rattle.std.specs.Prelude.{◌≡◌, ℕ, ◌≤◌, ◌<◌, ◌^◌, true, false, Option, Some, None}
use Rattle.chain_theory.specs.Specification.{Specification}
use Rattle.chain_theory.specs.Chain.{Chain}
use Rattle.chain_theory.specs.Agreement.{is_met, output_value, Agrees}

-- Output h misses its cell on row t, which isn't free. No output below h misses a cell, and output
-- h misses none on a row below t.
-- Example: OR in place of XOR differs first at output 1 and row 3.
pub record IsFirstDifference (c : Chain) (s : Specification) (h t : ℕ) : Type 0 where
  pub output_from : 1 ≤ h
  pub output : h ≤ s.outputs
  pub row : t < 2 ^ s.inputs
  pub missed : is_met (s.cell h t) (output_value c h t) ≡ false
  pub outputs_before : (g u : ℕ) → 1 ≤ g → g < h → u < 2 ^ s.inputs → is_met (s.cell g u) (output_value c g u) ≡ true
  pub rows_before : (u : ℕ) → u < t → is_met (s.cell h u) (output_value c h u) ≡ true

-- None: the chain agrees; Some: the output and the row of the first difference
abbrev pub IsComparison : Chain → Specification → Option (ℕ × ℕ) → Type 0
IsComparison c s None = Agrees c s
IsComparison c s (Some at) = IsFirstDifference c s at.0 at.1
