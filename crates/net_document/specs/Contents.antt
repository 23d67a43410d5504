-- The content of a line of a netlist, in any format: a comment runs from `#` to the end of the line, and trailing
-- blanks are removed.
use Rattle.std.specs.Prelude.{ℕ, Bool, true, false, ◌&&◌, ◌||◌, ◌==◌, if◌then◌else◌, List, [], ◌∷◌, ◌++◌, Option, Some}
use Rattle.std.specs.Prelude.{None}
use Rattle.std.specs.Option.{option_map}
use Rattle.text_core.specs.Lines.{Line}

-- space and tab
abbrev pub is_blank : ℕ → Bool
is_blank b = b == 32 || b == 9

-- `prefix`, followed by `bytes` up to the first `#` of `bytes`
unfoldable pub before_from : List ℕ → List ℕ → List ℕ
before_from prefix [] = prefix
before_from prefix (b ∷ bs) = if b == 35 then prefix else before_from (prefix ++ b ∷ []) bs

abbrev pub before_comment : List ℕ → List ℕ
before_comment text = before_from [] text

abbrev pub is_nothing : {A : Type 0} → List A → Bool
is_nothing [] = true
is_nothing (x ∷ xs) = false

-- a text without its trailing blanks
unfoldable pub trimmed : List ℕ → List ℕ
trimmed [] = []
trimmed (b ∷ bs) = if is_blank b && is_nothing (trimmed bs) then [] else b ∷ trimmed bs

abbrev pub after_first : ℕ → Option (List ℕ) → Option (List ℕ)
after_first b rest = option_map (λ (prefix : List ℕ). b ∷ prefix) rest

-- a text without its last byte, if that is the given byte, else None
unfoldable pub without_last : ℕ → List ℕ → Option (List ℕ)
without_last c [] = None
without_last c (b ∷ []) = if b == c then Some [] else None
without_last c (b ∷ d ∷ bs) = after_first b (without_last c (d ∷ bs))

abbrev pub or_whole : List ℕ → Option (List ℕ) → List ℕ
or_whole text None = text
or_whole text (Some prefix) = prefix

-- A CR before the LF is removed; a CR without an LF after it stays.
abbrev pub without_return : Line → List ℕ
without_return l = if l.ended then or_whole l.text (without_last 13 l.text) else l.text

-- the content of a line: its text before the comment, without trailing blanks
-- Example: that of `.end # of m` is `.end`.
abbrev pub content_of : Line → List ℕ
content_of l = trimmed (before_comment (without_return l))
