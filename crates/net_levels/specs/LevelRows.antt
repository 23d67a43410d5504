-- The levels of nodes that a list holds, by the index of the node.
use Rattle.std.specs.Prelude.{ℕ, List, slice_index_or}

unfoldable pub row_levels : List ℕ → ℕ → ℕ
row_levels row p = slice_index_or row p 0
