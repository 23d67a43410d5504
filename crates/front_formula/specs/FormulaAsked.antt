-- Words that ask for the formula of a part of a certificate.
use Rattle.std.specs.Prelude.{◌≡◌, ℕ, nat_le, List, [], ◌∷◌, length, Bool, true, false, is_some, if◌then◌else◌}
use Rattle.std.specs.Prelude.{Option, None, Some, codes}
use Rattle.command_line.specs.Options.{is_word}
use Rattle.file_words.specs.Sorting.{Line, file_line, is_standard}
use Rattle.front_core.specs.Asked.{first_in, is_apart}
use Rattle.cmd_formula.specs.Words.{Asked, asked_in}

-- The first word is `formula`.
abbrev pub names_formula : List (List ℕ) → Bool
names_formula [] = false
names_formula (name ∷ words) = is_word name (codes "formula")

-- what the words of a line without files ask for
abbrev pub part_asked : List (List ℕ) → Option Asked
part_asked [] = None
part_asked (name ∷ words) = asked_in words

-- a file that isn't standard input
abbrev pub is_plain_file : Option (List ℕ) → Bool
is_plain_file None = false
is_plain_file (Some file) = if is_standard file then false else true

-- A log goes to a file, and not to that of `-o`. The certificate is read again for it, so that has to be a file too.
abbrev pub log_fits : Option (List ℕ) → Option (List ℕ) → Option (List ℕ) → Bool
log_fits None input output = true
log_fits (Some file) input output =
    if is_standard file then false
    else if is_plain_file input then is_apart file output
    else false

abbrev pub fits : Line → Asked → Bool
fits line asked =
    if nat_le (length line.operands) 1 then
    if is_some line.certificate then false else log_fits asked.log (first_in line.operands) line.output
    else false

-- These words ask for this part, with these files.
pub record AsksForPart (words : List (List ℕ)) (line : Line) (asked : Asked) : Type 0 where
  pub line_is : file_line words ≡ Some line
  pub asked_is : part_asked line.words ≡ Some asked
  pub fits_in : fits line asked ≡ true
