-- The lines of a text.
use Rattle.std.specs.Prelude.{ℕ, Bool, true, false, List, [], ◌∷◌, ◌++◌, ◌==◌, if◌then◌else◌}

-- a line without its LF (byte 10), and whether an LF ends it
pub record Line : Type 0 where
  pub text : List ℕ
  pub ended : Bool

-- the line after the last LF, which no LF ends; there is none if nothing follows the LF
abbrev pub last_line : List ℕ → List Line
last_line [] = []
last_line (b ∷ bs) = record { text = b ∷ bs; ended = false } ∷ []

-- the lines of an unfinished line, which has no LF, followed by bytes
unfoldable pub lines_from : List ℕ → List ℕ → List Line
lines_from prefix [] = last_line prefix
lines_from prefix (b ∷ bs) = if b == 10 then record { text = prefix; ended = true } ∷ lines_from [] bs
    else lines_from (prefix ++ b ∷ []) bs

-- the lines of a text, as `inputs 2` and `0110` of "inputs 2\n0110\n"
abbrev pub lines_of : List ℕ → List Line
lines_of bytes = lines_from [] bytes

-- how a line is written
abbrev pub line_bytes : Line → List ℕ
line_bytes l = if l.ended then l.text ++ 10 ∷ [] else l.text
