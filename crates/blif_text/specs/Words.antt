-- The words of a logical line.
use Rattle.std.specs.Prelude.{ℕ, Bool, if◌then◌else◌, List, [], ◌∷◌, ◌++◌}
use Rattle.std.specs.List.{list_any}
use Rattle.net_document.specs.Contents.{is_blank}
use Rattle.net_document.specs.Limits.{is_long_word}

abbrev pub word_then : List ℕ → List (List ℕ) → List (List ℕ)
word_then [] ws = ws
word_then (b ∷ bs) ws = (b ∷ bs) ∷ ws

-- the words of `prefix` ++ `text`; `prefix` has no blank
unfoldable pub words_from : List ℕ → List ℕ → List (List ℕ)
words_from prefix [] = word_then prefix []
words_from prefix (b ∷ bs) = if is_blank b then word_then prefix (words_from [] bs)
    else words_from (prefix ++ b ∷ []) bs

-- the words of a text: the non-empty runs between blanks
abbrev pub words_of : List ℕ → List (List ℕ)
words_of text = words_from [] text

-- whether some word has more than 1,024 bytes
unfoldable pub has_long : List (List ℕ) → Bool
has_long words = list_any is_long_word words
