-- The logical lines of a BLIF text (the Berkeley BLIF manual): a line that ends with `\` is
-- continued by the next one.
use Rattle.std.specs.Prelude.{ℕ, ◌+◌, ◌==◌, if◌then◌else◌, List, [], ◌∷◌, ◌++◌, length, Option, Some, None}
use Rattle.text_core.specs.Lines.{Line, lines_of}
use Rattle.net_document.specs.Contents.{without_last, content_of}

-- a logical line: the number of its first line, the number of bytes of all its lines without their
-- LFs but with comments, and its content
pub record Logical : Type 0 where
  pub first : ℕ
  pub size : ℕ
  pub text : List ℕ

abbrev pub begun_at : ℕ → Logical
begun_at number = record { first = number; size = 0; text = [] }

-- In a continued line a blank replaces the `\`.
abbrev pub going_on : Logical → Line → List ℕ → Logical
going_on j l prefix = record { first = j.first; size = j.size + length l.text; text = j.text ++ (prefix ++ 32 ∷ []) }

abbrev pub ended_by : Logical → Line → Logical
ended_by j l = record { first = j.first; size = j.size + length l.text; text = j.text ++ content_of l }

abbrev pub line_then : Option (List ℕ) → List Logical → (List ℕ → List Logical) → List Logical
line_then None ended further = ended
line_then (Some prefix) ended further = further prefix

-- the logical lines of `j`, the lines joined so far, and of further lines, whose first one has the number `number`
unfoldable pub logical_from : ℕ → Logical → List Line → List Logical
logical_from number j [] = if number == j.first then [] else j ∷ []
logical_from number j (l ∷ ls) = line_then (without_last 92 (content_of l))
    (ended_by j l ∷ logical_from (number + 1) (begun_at (number + 1)) ls) (λ prefix.
    logical_from (number + 1) (going_on j l prefix) ls)

-- the logical lines of a text whose first line has the number `number`
-- Example: `.inputs a \`, ` b # two`, `.end` are `.inputs a   b` with the number 1 and `.end` with
-- 3.
abbrev pub logical_of : ℕ → List ℕ → List Logical
logical_of number bytes = logical_from number (begun_at number) (lines_of bytes)
