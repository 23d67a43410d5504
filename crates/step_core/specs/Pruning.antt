-- The tests of the pruning rules: outputs that need steps of their own, and steps that no chain in normal form
-- has.
use Rattle.std.specs.Prelude.{ℕ, ◌==◌, Bool, ◌&&◌, ◌||◌, not, List, length, slice_index, bit_and, bit_xor}
use Rattle.chain_theory.specs.Chain.{Step}
use Rattle.tt_core.specs.Words.{Words}
use Rattle.bound_core.specs.Counts.{some_below, count_below}
use Rattle.step_core.specs.Steps.{misses, is_missing}

-- ---- outputs that need steps of their own

-- the outputs i + 1 and b + 1 are compatible: no row specifies different values for them
unfoldable pub are_compatible : Words → ℕ → ℕ → Bool
are_compatible w i b = bit_and (bit_and (bit_xor (slice_index w.on i) (slice_index w.on b)) (slice_index w.care i)) (slice_index w.care b) == 0

-- output i + 1 is compatible with no output before it
unfoldable pub is_incompatible : Words → ℕ → Bool
is_incompatible w i = not (some_below (are_compatible w i) i)

-- output i + 1 is compatible with no output before it, and no step has its values yet
unfoldable pub is_due : Words → List Step → ℕ → Bool
is_due w steps i = is_incompatible w i && is_missing w steps i

-- how many outputs are due: each of them needs a further step of its own
-- Example: the tables 0110 and 0001 of two inputs are both due before the first step, so at least two steps are
-- needed.
abbrev pub due : Words → List Step → ℕ
due w steps = count_below (is_due w steps) (length w.on)

-- the word has the specified values of output i + 1
unfoldable pub meets : Words → ℕ → ℕ → Bool
meets w word i = not (misses w word i)

-- the word has the specified values of some output
unfoldable pub meets_some : Words → ℕ → Bool
meets_some w word = some_below (meets w word) (length w.on)

-- the word has the values of output i + 1, and no step has them yet
unfoldable pub gives : Words → List Step → ℕ → ℕ → Bool
gives w steps word i = meets w word i && is_missing w steps i

unfoldable pub gives_some : Words → List Step → ℕ → Bool
gives_some w steps word = some_below (gives w steps word) (length w.on)

-- ---- operators

-- the operator is one of its operands or its complement: 0011, 0101, 1100 or 1010
unfoldable pub depends_on_one : ℕ → Bool
depends_on_one op = op == 3 || op == 5 || op == 12 || op == 10

-- the operator is a constant: 0000 or 1111
unfoldable pub is_constant : ℕ → Bool
is_constant op = op == 0 || op == 15
