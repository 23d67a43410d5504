-- The inputs that tables use.
use Rattle.std.specs.Prelude.{ℕ, ◌+◌, Bool}
use Rattle.chain_theory.specs.Specification.{Specification}
use Rattle.bound_core.specs.Counts.{some_below, count_below, uses}

-- output i + 1 uses input j: on two rows that differ in this input alone, its cells are 0 and 1
unfoldable pub output_uses : Specification → ℕ → ℕ → Bool
output_uses s j i = uses s (i + 1) j

-- some output uses input i + 1
unfoldable pub is_used : Specification → ℕ → Bool
is_used s i = some_below (output_uses s (i + 1)) s.outputs

-- how many inputs are used
-- Example: one for the tables `0011` and `0-1-` of two inputs, which both use x1 alone.
abbrev pub used_inputs : Specification → ℕ
used_inputs s = count_below (is_used s) s.inputs
