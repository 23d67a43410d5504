-- Words at the start of a text.
use Rattle.std.specs.Prelude.{ℕ, Bool, true, false, List, [], ◌∷◌, Option, Some, None, ◌==◌, if◌then◌else◌}
use Rattle.std.specs.Char.{is_ascii_lowercase}

-- the text after a word, None if the text doesn't begin with that word
unfoldable pub after : List ℕ → List ℕ → Option (List ℕ)
after [] text = Some text
after (w ∷ ws) [] = None
after (w ∷ ws) (b ∷ bs) = if w == b then after ws bs else None

-- whether the first byte is one of a to z
abbrev pub begins_lower : List ℕ → Bool
begins_lower [] = false
begins_lower (b ∷ bs) = is_ascii_lowercase b

-- whether a byte isn't in a text
unfoldable pub is_free : ℕ → List ℕ → Bool
is_free byte [] = true
is_free byte (b ∷ bs) = if b == byte then false else is_free byte bs
