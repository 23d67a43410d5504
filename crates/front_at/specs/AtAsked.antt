-- Words that ask for the values of two netlists under given bits.
use Rattle.std.specs.Prelude.{◌≡◌, ℕ, ◌==◌, List, [], ◌∷◌, length, Bool, true, false, is_some, if◌then◌else◌}
use Rattle.std.specs.Prelude.{Option, Some, None, codes}
use Rattle.command_line.specs.Options.{is_word}
use Rattle.file_words.specs.Sorting.{Line, file_line}
use Rattle.file_words.specs.Lines.{line_value}
use Rattle.front_core.specs.Asked.{IsNotPlain}
use Rattle.cmd_at.specs.AtBits.{bits_in}
use Rattle.front_at.specs.declared.asking.AtLine.{AtLine}

abbrev pub names_values : List ℕ → List ℕ → Bool
names_values name option = if is_word name (codes "equiv") then is_word option (codes "--at") else false

abbrev pub bits_for : List ℕ → List ℕ → List ℕ → Option (List Bool)
bits_for name option word = if names_values name option then bits_in word else None

-- The bits that the words of a line without files ask for: those of `equiv --at BITS`, and no others.
abbrev pub at_in : List (List ℕ) → Option (List Bool)
at_in [] = None
at_in (name ∷ []) = None
at_in (name ∷ option ∷ []) = None
at_in (name ∷ option ∷ word ∷ []) = bits_for name option word
at_in (name ∷ option ∷ word ∷ other ∷ words) = None

-- Two files are read, and the answer is written to one.
abbrev pub fits : Line → Bool
fits line = if length line.operands == 2 then (if is_some line.certificate then false else true) else false

-- These words, no command line as they are, ask for the values under these bits, with these files.
pub record AsksForValues (words : List (List ℕ)) (line : Line) (bits : List Bool) : Type 0 where
  pub other : IsNotPlain words
  pub line_is : file_line words ≡ Some line
  pub bits_is : at_in line.words ≡ Some bits
  pub fits_in : fits line ≡ true

-- They ask for no values.
abbrev pub AsksForNone : List (List ℕ) → Type 0
AsksForNone words = (line : Line) (bits : List Bool) → AsksForValues words line bits → ⊥

-- what words ask for; None if they ask for no values
abbrev pub IsAtOf : List (List ℕ) → Option AtLine → Type 0
IsAtOf words None = AsksForNone words
IsAtOf words (Some l) = AsksForValues words (line_value l.line) l.bits.items
