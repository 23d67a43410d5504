-- What a reader promises about the text that it was fed, wherever the pieces ended, in terms of its stage.
use Rattle.std.specs.Prelude.{ℕ, List, ◌++◌, Result, Ok, Err}
use Rattle.text_core.specs.Lines.{Line, lines_from, lines_of}
use Rattle.line_reader.specs.Splits.{IsSplit}

-- the stage after the whole lines so far, the number of the next line, and what was fed of that line
pub record Reader (S : Type 0) : Type 0 where
  pub stage : S
  pub number : ℕ
  pub unfinished : List ℕ

-- the invariant of a reader is that of its stage
pub record IsReader {S : Type 0} (is_whole : S → ℕ → Type 0) (r : Reader S) : Type 0 where
  pub stage : is_whole r.stage r.number

-- A reader represents a text: it keeps the unfinished line, and whatever follows, its stage is the state after the
-- whole lines of the text.
pub record StandsFor {S : Type 0} (are_lines : S → ℕ → List Line → List Line → Type 0) (r : Reader S) (text : List ℕ) : Type 0 where
  pub split : IsSplit text r.number r.unfinished
  pub stands : (rest : List ℕ) → are_lines r.stage r.number (lines_from r.unfinished rest) (lines_of (text ++ rest))

-- Whatever follows the text, it is refused with this fault.
abbrev pub IsRefused : {F : Type 0} → (F → List Line → Type 0) → F → List ℕ → Type 0
IsRefused refuses e text = (rest : List ℕ) → refuses e (lines_of (text ++ rest))

-- A reader that was fed this text represents it, or the text is refused.
abbrev pub HasRead : {R S F : Type 0} → (R → Reader S) → (S → ℕ → List Line → List Line → Type 0) → (F → List Line → Type 0) → Result R F → List ℕ → Type 0
HasRead view stands refuses (Ok reader) text = StandsFor stands (view reader) text
HasRead view stands refuses (Err e) text = IsRefused refuses e text

-- The stage after one more line represents the lines so far, or that line is at fault, whatever follows.
abbrev pub Judged : {S F : Type 0} → (S → ℕ → List Line → List Line → Type 0) → (F → List Line → Type 0) → Result S F → ℕ → List Line → List Line → Type 0
Judged stands refuses (Ok stage) number lines all = stands stage number lines all
Judged stands refuses (Err e) number lines all = refuses e all
