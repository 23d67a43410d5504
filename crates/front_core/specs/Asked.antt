-- What words ask for that may name files.
use Rattle.std.specs.Prelude.{◌≡◌, ℕ, nat_le, List, [], ◌∷◌, Bool, true, false, length, Option, None, Some}
use Rattle.std.specs.Prelude.{if◌then◌else◌}
use Rattle.command_line.specs.declared.command.Command.{Command}
use Rattle.command_line.specs.declared.command.Command.TheVariants.{Equiv, Gen, Synth, LeastDepth}
use Rattle.command_line.specs.CommandLine.{AsksFor}
use Rattle.file_words.specs.Sorting.{Line, file_line, is_same, is_standard}

-- the most files that a command reads
abbrev pub most_operands : Command → ℕ
most_operands (Gen blocks action) = 0
most_operands (Equiv budget) = 2
most_operands command = 1

-- the commands whose answers have a certificate that can go to a file
abbrev pub has_certificate : Command → Bool
has_certificate (Synth settings) = true
has_certificate (LeastDepth settings) = true
has_certificate (Equiv budget) = true
has_certificate command = false

-- What two options write goes to two places.
abbrev pub is_apart : List ℕ → Option (List ℕ) → Bool
is_apart file None = true
is_apart file (Some output) = if is_same file output then false else true

-- A certificate goes to a file that isn't standard output, of a command that has one.
abbrev pub certificate_fits : Command → Option (List ℕ) → Option (List ℕ) → Bool
certificate_fits command None output = true
certificate_fits command (Some file) output =
    if is_standard file then false
    else if has_certificate command then is_apart file output
    else false

abbrev pub fits : Command → Line → Bool
fits command line =
    if nat_le (length line.operands) (most_operands command) then certificate_fits command line.certificate line.output
    else false

-- The words are no command line as they are.
abbrev pub IsNotPlain : List (List ℕ) → Type 0
IsNotPlain words = (command : Command) → AsksFor words command → ⊥

-- The words name files: they are a command line without these, no more than the command reads and writes.
pub record AsksWithFiles (words : List (List ℕ)) (command : Command) (line : Line) : Type 0 where
  pub other : IsNotPlain words
  pub line_is : file_line words ≡ Some line
  pub asks : AsksFor line.words command
  pub fits_in : fits command line ≡ true

-- the name of a file; None for standard input or output
abbrev pub name_of : List ℕ → Option (List ℕ)
name_of file = if is_standard file then None else Some file

abbrev pub name_in : Option (List ℕ) → Option (List ℕ)
name_in None = None
name_in (Some file) = name_of file

abbrev pub first_in : List (List ℕ) → Option (List ℕ)
first_in [] = None
first_in (file ∷ files) = Some file

abbrev pub second_in : List (List ℕ) → Option (List ℕ)
second_in [] = None
second_in (file ∷ []) = None
second_in (file ∷ other ∷ files) = Some other

-- the budget of a comparison of two files; None for what reads one input or none
abbrev pub pair_budget : Command → List (List ℕ) → Option ℕ
pair_budget (Equiv budget) (file ∷ other ∷ files) = Some budget
pair_budget command files = None
