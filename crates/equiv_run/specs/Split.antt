-- Where the first of two consecutive BLIF texts ends: after the first logical line whose first word is `.end`.
use Rattle.std.specs.Prelude.{◌≡◌, ℕ, ◌+◌, Bool, true, false, List, [], ◌∷◌, ◌++◌, length, All, Option, Some, None}
use Rattle.std.specs.Prelude.{drop, codes, if◌then◌else◌}
use Rattle.std.specs.List.{flat_map}
use Rattle.text_core.specs.Lines.{Line, lines_of, line_bytes}
use Rattle.net_theory.specs.Document.{is_same}
use Rattle.net_document.specs.Contents.{without_last, content_of}
use Rattle.blif_text.specs.Words.{words_of}
use Rattle.blif_text.specs.Logical.{Logical, begun_at, logical_from, logical_of}

-- whether the first of some words is `.end`; None without a word
abbrev pub first_ends : List (List ℕ) → Option Bool
first_ends [] = None
first_ends (w ∷ ws) = Some (is_same w (codes ".end"))

abbrev pub is_known_end : Option Bool → Bool
is_known_end None = false
is_known_end (Some b) = b

-- the first word of a logical line is `.end`
abbrev pub says_end : Logical → Bool
says_end l = is_known_end (first_ends (words_of l.text))

-- the logical lines of physical lines, the first of which has this number
abbrev pub logical_lines : ℕ → List Line → List Logical
logical_lines number lines = logical_from number (begun_at number) lines

-- The offset after the first logical line whose first word is `.end`. The physical lines before the offset make
-- that logical line, as their last one, and others without `.end`; the lines after it begin a new logical line.
-- Example: for ".model a\n.end # a\n.model b\n" it is 18.
pub record IsSplit (bytes : List ℕ) (place : ℕ) : Type 0 where
  pub front : List Line
  pub after : List Line
  pub whole : lines_of bytes ≡ front ++ after
  pub place_is : place ≡ length (flat_map line_bytes front)
  pub after_is : lines_of (drop place bytes) ≡ after
  pub others : List Logical
  pub last : Logical
  pub lines : logical_lines 1 front ≡ others ++ last ∷ []
  pub ends : says_end last ≡ true
  pub none_before : All (λ l. says_end l ≡ false) others
  pub number : ℕ
  pub parted : logical_of 1 bytes ≡ logical_lines 1 front ++ logical_lines number after

-- the first of two values that is known
abbrev pub or_first : Option Bool → Option Bool → Option Bool
or_first None next = next
or_first (Some b) next = Some b

abbrev pub piece_then : Option (List ℕ) → Option ℕ → (List ℕ → Option ℕ) → Option ℕ
piece_then None ended further = ended
piece_then (Some front) ended further = further front

-- The same, line by line: `place` is the length of the lines so far, and `first` is what is known about the first
-- word of the current logical line.
unfoldable pub split_from : ℕ → Option Bool → List Line → Option ℕ
split_from place first [] = if is_known_end first then Some place else None
split_from place first (l ∷ ls) = piece_then (without_last 92 (content_of l))
    (if is_known_end (or_first first (first_ends (words_of (content_of l)))) then Some (place + length (line_bytes l))
    else split_from (place + length (line_bytes l)) None ls)
    (λ front. split_from (place + length (line_bytes l)) (or_first first (first_ends (words_of front))) ls)

abbrev pub split_of : List ℕ → Option ℕ
split_of bytes = split_from 0 None (lines_of bytes)

-- no logical line begins with `.end`
abbrev pub HasNoEnd : List ℕ → Type 0
HasNoEnd bytes = All (λ l. says_end l ≡ false) (logical_of 1 bytes)
