-- The levels of a chain's steps.
use Rattle.std.specs.Prelude.{ℕ, ◌+◌, List, length, map, slice_index_or}
use Rattle.std.specs.List.{range_with_len}
use Rattle.chain_theory.specs.Chain.{Chain}
use Rattle.chain_theory.specs.Levels.{level}

-- the levels of places as a slice holds them, that of place p at index p; after the slice they are 0
unfoldable pub slice_levels : List ℕ → ℕ → ℕ
slice_levels levels place = slice_index_or levels place 0

-- the level of each step, in the order of their places
-- Example: the levels of x4 = x1 AND x2, x5 = x3 XOR x4 are 1 and 2.
unfoldable pub levels_of : Chain → List ℕ
levels_of c = map (level c) (range_with_len (c.n + 1) (length c.steps))
