-- A lower bound for the number of steps, from the inputs that outputs use and the outputs that
-- differ.
use Rattle.std.specs.Prelude.{ℕ, zero, suc, ◌+◌, ◌-◌, ◌^◌, Bool, false, ◌&&◌, ◌||◌, not, max, if◌then◌else◌}
use Rattle.chain_theory.specs.Specification.{Specification, input}
use Rattle.chain_theory.specs.Levels.{greatest}
use Rattle.tt_core.specs.Live.{is_live}
use Rattle.bound_core.specs.Support.{are_opposite}

-- whether one of the numbers below k passes
unfoldable pub some_below : (ℕ → Bool) → ℕ → Bool
some_below test zero = false
some_below test (suc k) = some_below test k || test k

-- how many of the numbers below k pass
unfoldable pub count_below : (ℕ → Bool) → ℕ → ℕ
count_below test zero = 0
count_below test (suc k) = count_below test k + (if test k then 1 else 0)

-- Output h is sensitive to input j on row t: the row gives input j the bit 0, and output h has the
-- cells 0 and 1, in either order, on this row and on the row with input j flipped.
-- Example: of three inputs, row 1 (001) and row 5 (101) are such a pair of rows for x1.
unfoldable pub is_sensitive_on : Specification → ℕ → ℕ → ℕ → Bool
is_sensitive_on s h j t = are_opposite (s.cell h t) (s.cell h (t + 2 ^ (s.inputs - j))) && not (input s.inputs t j)

-- output h uses input j: it is in the support of the output
-- Example: 0011 uses x1 and not x2.
unfoldable pub uses : Specification → ℕ → ℕ → Bool
uses s h j = some_below (is_sensitive_on s h j) (2 ^ s.inputs)

-- input i + 1 is used by output h
unfoldable pub uses_next : Specification → ℕ → ℕ → Bool
uses_next s h i = uses s h (i + 1)

-- how many inputs output h uses: its support size
abbrev pub inputs_of : Specification → ℕ → ℕ
inputs_of s h = count_below (uses_next s h) s.inputs

-- output i + 1 is live
unfoldable pub live_next : Specification → ℕ → Bool
live_next s i = is_live s (i + 1)

-- output i + 1 is live and uses input j
unfoldable pub live_uses : Specification → ℕ → ℕ → Bool
live_uses s j i = uses s (i + 1) j && is_live s (i + 1)

-- some live output uses input i + 1
unfoldable pub is_in_use : Specification → ℕ → Bool
is_in_use s i = some_below (live_uses s (i + 1)) s.outputs

-- outputs g and h have the cells 0 and 1 on row t, in either order
unfoldable pub differ_on : Specification → ℕ → ℕ → ℕ → Bool
differ_on s g h t = are_opposite (s.cell g t) (s.cell h t)

-- outputs g and h differ
unfoldable pub differ : Specification → ℕ → ℕ → Bool
differ s g h = some_below (differ_on s g h) (2 ^ s.inputs)

-- output i + 1 is live and doesn't differ from output h
unfoldable pub live_compatible : Specification → ℕ → ℕ → Bool
live_compatible s h i = not (differ s (i + 1) h) && is_live s (i + 1)

-- output i + 1 is live, and differs from each live output before it
unfoldable pub is_new : Specification → ℕ → Bool
is_new s i = not (some_below (live_compatible s (i + 1)) i) && is_live s (i + 1)

-- the support size of output i + 1, less 1
unfoldable pub single : Specification → ℕ → ℕ
single s i = inputs_of s (i + 1) - 1

-- The greatest of: the number of live outputs that differ from the live ones before them; the support
-- size of each output, less 1; the number of inputs that live outputs use, less the number of live
-- outputs.
-- Example: it is 3 for the exclusive or of four inputs, and 2 for the tables 0110 and 0001 of two
-- inputs, since both outputs are live and they differ.
abbrev pub fewest : Specification → ℕ
fewest s = max (count_below (is_new s) s.outputs) (max (greatest (single s) s.outputs) (count_below (is_in_use s) s.inputs - count_below (live_next s) s.outputs))
