-- The first line of a text that is followed by bytes.
use Rattle.std.specs.Prelude.{ℕ, Bool, true, false, List, [], ◌∷◌, ◌++◌, ◌==◌, if◌then◌else◌}
use Rattle.text_core.specs.Lines.{Line}

-- a line without its LF, and whether an LF ends it
abbrev pub line_of : List ℕ → Bool → Line
line_of text ended = record { text = text; ended = ended }

-- a line, and the bytes after it
pub record Cut : Type 0 where
  pub line : Line
  pub rest : List ℕ

abbrev pub cut_of : List ℕ → Bool → List ℕ → Cut
cut_of text ended rest = record { line = line_of text ended; rest = rest }

-- the line that begins with a text without LF, followed by bytes
unfoldable pub cut_from : List ℕ → List ℕ → Cut
cut_from prefix [] = cut_of prefix false []
cut_from prefix (b ∷ bytes) = if b == 10 then cut_of prefix true bytes else cut_from (prefix ++ b ∷ []) bytes

-- the first line, up to the first LF or the end
abbrev pub cut_first : List ℕ → Cut
cut_first bytes = cut_from [] bytes
