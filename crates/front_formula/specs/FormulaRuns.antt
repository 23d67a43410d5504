-- How a run ends of a front that writes formulas too.
use Rattle.std.specs.Prelude.{◌⊎◌, ℕ, [], Bool, true, false}
use Rattle.frame_core.specs.declared.status.Status.{Status}
use Rattle.frame_core.specs.declared.status.Status.TheVariants.{Usage, Memory}
use Rattle.frame_core.specs.Reported.{usage, memory}
use Rattle.frame_core.specs.Run.{run_of}
use Rattle.frame_core.specs.Task.{Task}
use Rattle.frame_core.specs.Promise.{CommandPromise}
use Rattle.file_io.specs.Served.{Pass, Does, IsApart, IsDelivered, IsRead}
use Rattle.file_words.specs.Sorting.{Line}
use Rattle.front_core.specs.Asked.{IsNotPlain, name_in, first_in}
use Rattle.front_core.specs.Front.{Promises, FrontRun, Reports, Ending, IsEnding, IsOutOfMemory}
use Rattle.cmd_formula.specs.Words.{Asked, part_or_first}
use Rattle.cmd_formula.specs.FormulaReport.{formula_task, log_task}
use Rattle.front_formula.specs.FormulaAsked.{AsksForPart, names_formula}
use Rattle.front_formula.specs.Logged.{IsLogged}
use Rattle.front_formula.specs.MiterAsked.{AsksForMiter}
use Rattle.front_formula.specs.MiterRuns.{IsMiterServed}

-- a run of a command with all that commands promise, whatever its words are
abbrev pub Performs : Task → Pass → Pass → Pass → Status → Type 0
Performs task source out note status = CommandPromise task (run_of [] source out note status)

-- a command over the file that a line reads
abbrev pub reads_line : Line → Task → Does
reads_line line task = IsRead (name_in (first_in line.operands)) (IsApart (Performs task))

-- The formula of the part went to the output, and its log to the file of `--log`.
abbrev pub IsPartWritten : Line → Asked → FrontRun → Type 0
IsPartWritten line asked r =
    IsDelivered (name_in line.output) (IsLogged asked.log
    (reads_line line (formula_task asked.size (part_or_first asked.part)))
    (reads_line line (log_task asked.size (part_or_first asked.part)))) r.files r.source r.out r.note r.status

-- The words ask for a part, of which formula and log were written, or why there are none was reported.
pub record IsPartServed (r : FrontRun) : Type 0 where
  pub line : Line
  pub asked : Asked
  pub asks : AsksForPart r.words line asked
  pub served : IsPartWritten line asked r

-- The words ask for no part.
pub record IsPartless (r : FrontRun) : Type 0 where
  pub none : (line : Line) (asked : Asked) → AsksForPart r.words line asked → ⊥
  pub reports : Reports usage Usage r

-- One of these, or memory ran out before the words were read.
abbrev pub IsFormulaRun : FrontRun → Type 0
IsFormulaRun r = IsPartServed r ⊎ (IsPartless r ⊎ Reports memory Memory r)

-- The words don't ask for a miter, and are served by the program's front.
pub record IsWithoutMiter (p : Promises) (r : FrontRun) : Type 0 where
  pub none : (line : Line) (budget : ℕ) → AsksForMiter r.words line budget → ⊥
  pub served : (ending : Ending) × IsEnding p r ending

-- Words of the program, or of `equiv` with `--formula`; or memory ran out before the words were read.
abbrev pub IsServedOther : Promises → FrontRun → Type 0
IsServedOther p r = IsMiterServed p r ⊎ (IsWithoutMiter p r ⊎ IsOutOfMemory r)

-- Words whose first is `formula`, which are no command line of the program, ask for a formula.
abbrev pub IsServedBy : Bool → Promises → FrontRun → Type 0
IsServedBy true p r = IsNotPlain r.words × IsFormulaRun r
IsServedBy false p r = IsServedOther p r

abbrev pub IsServed : Promises → FrontRun → Type 0
IsServed p r = IsServedBy (names_formula r.words) p r
