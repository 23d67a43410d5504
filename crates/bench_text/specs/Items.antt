-- The items (tokens) of a line: words and punctuation marks.
use Rattle.std.specs.Prelude.{ℕ, Bool, false, ◌||◌, ◌==◌, if◌then◌else◌, List, [], ◌∷◌, ◌++◌}
use Rattle.net_document.specs.Contents.{is_blank}
use Rattle.blif_text.specs.Words.{word_then}

-- `(`, `)`, `,` and `=`
abbrev pub is_mark : ℕ → Bool
is_mark b = b == 40 || b == 41 || b == 44 || b == 61

-- the items of `prefix` ++ `text`; `prefix` has no blank and no mark
unfoldable pub items_from : List ℕ → List ℕ → List (List ℕ)
items_from prefix [] = word_then prefix []
items_from prefix (b ∷ bs) = if is_blank b then word_then prefix (items_from [] bs)
    else (if is_mark b then word_then prefix ((b ∷ []) ∷ items_from [] bs) else items_from (prefix ++ b ∷ []) bs)

-- The items of a text: each mark, and the nonempty runs between marks and blanks.
-- Example: `y = NAND(a, b)` has the eight items `y`, `=`, `NAND`, `(`, `a`, `,`, `b` and `)`.
abbrev pub items_of : List ℕ → List (List ℕ)
items_of text = items_from [] text

-- whether an item is a mark
abbrev pub is_mark_item : List ℕ → Bool
is_mark_item [] = false
is_mark_item (b ∷ []) = is_mark b
is_mark_item (b ∷ c ∷ bs) = false
