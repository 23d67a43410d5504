-- Bad states and invariant constraints of an AIGER text (the AIGER 1.9 report) as further outputs. Their literals stand after
-- the outputs, a line each. The plain text of a text with them has the same lines, but its header counts them as outputs, and
-- each of their symbols names the output that it became. So the first bad state is the output after the last one.
-- Example: that of `aag 2 2 0 1 0 1`, `2`, `4`, `2`, `5`, `b0 p` is `aag 2 2 0 2 0`, `2`, `4`, `2`, `5`, `o1 p`.
use Rattle.std.specs.Prelude.{ℕ, ◌+◌, ◌-◌, ◌==◌, ◌&&◌, Bool, nat_lt, if◌then◌else◌, List, [], ◌∷◌, ◌++◌, length, Option, Some, None, decimal}
use Rattle.std.proofs.Common.{drop}
use Rattle.text_core.specs.Items.{split_from}
use Rattle.text_core.specs.Limits.{most_number}
use Rattle.text_core.specs.Lines.{Line, lines_of, line_bytes}
use Rattle.text_core.specs.Numbers.{number_up_to}
use Rattle.aiger_binary.specs.Ascii.{ascii_in}
use Rattle.aiger_sections.specs.declared.header.Sections.{Sections}
use Rattle.aiger_sections.specs.declared.symbols.Places.{Places}
use Rattle.aiger_sections.specs.Header.{header_numbers, sections_by, is_sectioned, plain_header, line_count}

-- ---- symbols

abbrev pub places : ℕ → ℕ → Places
places first count = record { first = first; count = count }

-- which outputs of the plain text the symbols of a letter name: `o`, `b` or `c`
unfoldable pub places_of : Sections → ℕ → Option Places
places_of s letter = if letter == 111 then Some (places 0 s.outputs) else (if letter == 98 then Some (places s.outputs s.bads)
    else (if letter == 99 then Some (places (s.outputs + s.bads) s.constraints) else None))

-- the key of the output at a position; `b` begins none of the plain text, and so a position that isn't there stays a fault
abbrev pub key_at : ℕ → List ℕ → Places → Option ℕ → List ℕ
key_at letter digits p None = letter ∷ digits
key_at letter digits p (Some position) = if nat_lt position p.count then 111 ∷ decimal (p.first + position) else 98 ∷ digits

abbrev pub key_by : ℕ → List ℕ → Option Places → List ℕ
key_by letter digits None = letter ∷ digits
key_by letter digits (Some p) = key_at letter digits p (number_up_to most_number digits)

-- Example: after 2 outputs the key `b0` becomes `o2`.
unfoldable pub plain_key : Sections → List ℕ → List ℕ
plain_key s [] = []
plain_key s (letter ∷ digits) = key_by letter digits (places_of s letter)

-- what is before the first blank
abbrev pub key_of : List ℕ → List ℕ
key_of text = (split_from [] text).first

unfoldable pub plain_symbol : Sections → List ℕ → List ℕ
plain_symbol s text = plain_key s (key_of text) ++ drop (length (key_of text)) text

-- ---- lines

-- the text of a line, where `kept` lines are left before the symbols
abbrev pub text_at : Sections → ℕ → List ℕ → List ℕ
text_at s kept text = if nat_lt 0 kept then text else plain_symbol s text

abbrev pub line_at : Sections → ℕ → Line → Line
line_at s kept l = record { text = text_at s kept l.text; ended = l.ended }

-- the lines after the header: `kept` as they are, then the symbols; what may follow them is a comment, which isn't read
unfoldable pub lines_in : Sections → ℕ → List Line → List ℕ
lines_in s kept [] = []
lines_in s kept (l ∷ ls) = line_bytes (line_at s kept l) ++ lines_in s (kept - 1) ls

abbrev pub plain_with : List ℕ → List Line → List ℕ → List ℕ
plain_with bytes ls numbers = if is_sectioned (sections_by numbers)
    then plain_header numbers ++ lines_in (sections_by numbers) (line_count numbers) ls else bytes

abbrev pub plain_by : List ℕ → List Line → List ℕ
plain_by bytes [] = bytes
plain_by bytes (l ∷ ls) = if l.ended then plain_with bytes ls (header_numbers l.text) else bytes

-- ---- texts

-- the plain text of an ASCII text; the text itself where it has no bad states and constraints
unfoldable pub plain_of : List ℕ → List ℕ
plain_of bytes = plain_by bytes (lines_of bytes)

-- the same of a text in either form
abbrev pub plain_in : List ℕ → List ℕ
plain_in bytes = plain_of (ascii_in bytes)

abbrev pub sections_from : List Line → Sections
sections_from [] = sections_by []
sections_from (l ∷ ls) = sections_by (header_numbers l.text)

-- how many outputs, bad states and constraints an ASCII text has by its header
unfoldable pub sections_of : List ℕ → Sections
sections_of bytes = sections_from (lines_of bytes)

-- the same of a text in either form
abbrev pub sections_in : List ℕ → Sections
sections_in bytes = sections_of (ascii_in bytes)

-- whether two texts have as many of each
unfoldable pub are_same : Sections → Sections → Bool
are_same s t = s.outputs == t.outputs && s.bads == t.bads && s.constraints == t.constraints
