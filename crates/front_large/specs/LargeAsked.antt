-- Words that ask for a question that is too large for one run of the program.
use Rattle.std.specs.Prelude.{◌≡◌, ℕ, nat_le, List, length, Bool, true, false, is_some, if◌then◌else◌, Option, Some, None}
use Rattle.file_words.specs.Sorting.{Line, file_line}
use Rattle.file_words.specs.Lines.{line_value}
use Rattle.front_core.specs.Asked.{IsNotPlain}
use Rattle.front_large.specs.declared.asking.LargeLine.{LargeLine}
use Rattle.front_large.specs.declared.large.Large.{Large}
use Rattle.front_large.specs.LargeWords.{large_in, IsReady}

-- One file is read, and the answer is written to one.
abbrev pub fits : Line → Bool
fits line = if nat_le (length line.operands) 1 then if is_some line.certificate then false else true else false

-- These words, no command line as they are, ask for this, with these files.
pub record AsksForLarge (words : List (List ℕ)) (line : Line) (asked : Large) : Type 0 where
  pub other : IsNotPlain words
  pub line_is : file_line words ≡ Some line
  pub asked_is : large_in line.words ≡ Some asked
  pub fits_in : fits line ≡ true

-- They ask for no such question.
abbrev pub AsksForNone : List (List ℕ) → Type 0
AsksForNone words = (line : Line) (asked : Large) → AsksForLarge words line asked → ⊥

-- what words ask for; None if they ask for no such question
abbrev pub IsLargeOf : List (List ℕ) → Option LargeLine → Type 0
IsLargeOf words None = AsksForNone words
IsLargeOf words (Some l) = AsksForLarge words (line_value l.line) l.asked × IsReady l.asked
