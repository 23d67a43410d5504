-- Words of `equiv` that also ask for the miter of the two netlists, and for the log of their comparison.
use Rattle.std.specs.Prelude.{◌≡◌, ℕ, List, [], ◌∷◌, ◌++◌, Bool, true, false, is_some, if◌then◌else◌}
use Rattle.std.specs.Prelude.{Option, None, Some, codes}
use Rattle.command_line.specs.declared.command.Command.{Command}
use Rattle.command_line.specs.CommandLine.{command_of}
use Rattle.command_line.specs.Options.{is_word}
use Rattle.file_words.specs.Sorting.{Line, file_line, is_standard}
use Rattle.front_core.specs.Asked.{first_in, second_in, is_apart, fits, pair_budget, IsNotPlain}
use Rattle.front_formula.specs.FormulaAsked.{is_plain_file}

-- ---- the words of a line

-- The words so far, apart: the command's own, the files of `--formula` and `--log`, and whether no file was named twice.
pub record Picked : Type 0 where
  pub own : List (List ℕ)
  pub formula : Option (List ℕ)
  pub log : Option (List ℕ)
  pub good : Bool

abbrev pub bad : Picked → Picked
bad p = record { own = p.own; formula = p.formula; log = p.log; good = false }

abbrev pub formula_taken : Picked → List ℕ → Picked
formula_taken p file = if is_some p.formula then bad p
    else record { own = p.own; formula = Some file; log = p.log; good = p.good }

abbrev pub log_taken : Picked → List ℕ → Picked
log_taken p file = if is_some p.log then bad p
    else record { own = p.own; formula = p.formula; log = Some file; good = p.good }

abbrev pub own_taken : Picked → List ℕ → List ℕ → Picked
own_taken p name value =
    record { own = (p.own ++ name ∷ []) ++ value ∷ []; formula = p.formula; log = p.log; good = p.good }

-- with one more option
unfoldable pub taken : Picked → List ℕ → List ℕ → Picked
taken p name value =
    if is_word name (codes "--formula") then formula_taken p value
    else (if is_word name (codes "--log") then log_taken p value else own_taken p name value)

unfoldable pub taken_all : Picked → List (List ℕ) → Picked
taken_all p [] = p
taken_all p (name ∷ []) = bad p
taken_all p (name ∷ value ∷ words) = taken_all (taken p name value) words

-- The words after the command's name are options, each a name and a value.
-- Example: of `equiv --formula f --conflicts 9` the own words are `equiv --conflicts 9`, and the formula goes to `f`.
abbrev pub picked : List (List ℕ) → Picked
picked [] = record { own = []; formula = None; log = None; good = false }
picked (name ∷ options) = taken_all (record { own = name ∷ []; formula = None; log = None; good = true }) options

-- ---- the files

-- The two netlists are read more than once, so none of them is standard input.
abbrev pub are_plain_files : List (List ℕ) → Bool
are_plain_files files = if is_plain_file (first_in files) then is_plain_file (second_in files) else false

-- Neither of the two netlists is in this file.
abbrev pub is_unread : List ℕ → List (List ℕ) → Bool
is_unread file files = if is_apart file (first_in files) then is_apart file (second_in files) else false

-- Such a file isn't standard output, nor that of `-o` or `--certificate`, nor one of the netlists.
abbrev pub is_own_file : List ℕ → Line → Bool
is_own_file file line =
    if is_standard file then false
    else (if is_apart file line.output then
    (if is_apart file line.certificate then is_unread file line.operands else false)
    else false)

abbrev pub formula_fits : Option (List ℕ) → Line → Bool
formula_fits None line = false
formula_fits (Some file) line = is_own_file file line

-- The log goes to another file than the formula.
abbrev pub miter_log_fits : Option (List ℕ) → Option (List ℕ) → Line → Bool
miter_log_fits None formula line = true
miter_log_fits (Some file) formula line = if is_own_file file line then is_apart file formula else false

abbrev pub outputs_fit : Picked → Line → Bool
outputs_fit p line = if formula_fits p.formula line then miter_log_fits p.log p.formula line else false

abbrev pub fits_miter : Picked → Line → Bool
fits_miter p line =
    if p.good then
    if are_plain_files line.operands then outputs_fit p line else false
    else false

-- ---- the command

-- the budget of a comparison of the two files that a line names
abbrev pub budget_for : Option Command → Line → Option ℕ
budget_for None line = None
budget_for (Some command) line = if fits command line then pair_budget command line.operands else None

abbrev pub miter_budget : Picked → Line → Option ℕ
miter_budget p line = if fits_miter p line then budget_for (command_of p.own) line else None

-- These words ask for a comparison of two files within this budget, for their miter, and perhaps for its log.
pub record AsksForMiter (words : List (List ℕ)) (line : Line) (budget : ℕ) : Type 0 where
  pub other : IsNotPlain words
  pub line_is : file_line words ≡ Some line
  pub budget_is : miter_budget (picked line.words) line ≡ Some budget
