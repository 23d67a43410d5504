-- Lists of numbers as functions of the index.
use Rattle.std.specs.Prelude.{ℕ, ◌==◌, if◌then◌else◌, nat_lt, Bool, List, map, slice_index_or}

-- 0 after the end of the list
unfoldable pub entry : List ℕ → ℕ → ℕ
entry xs i = slice_index_or xs i 0

-- the same function except at one index
abbrev pub with_entry : (ℕ → ℕ) → ℕ → ℕ → ℕ → ℕ
with_entry f i y k = if k == i then y else f k

-- which entries aren't 0
abbrev pub marks_of : List ℕ → List Bool
marks_of xs = map (λ x. nat_lt 0 x) xs
