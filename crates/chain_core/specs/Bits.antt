-- The bits of places, as a list.
use Rattle.std.specs.Prelude.{ℕ, Bool, false, List, slice_index_or}

-- The bit of place p is the entry p of the list; after the list it is 0.
unfoldable pub bits : List Bool → ℕ → Bool
bits values p = slice_index_or values p false
