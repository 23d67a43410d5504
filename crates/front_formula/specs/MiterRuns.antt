-- How a run of `equiv` ends that also writes the miter.
use Rattle.std.specs.Prelude.{ℕ, List, [], Option}
use Rattle.frame_core.specs.Run.{run_of}
use Rattle.frame_core.specs.Promise.{CommandPromise}
use Rattle.file_io.specs.Served.{Does}
use Rattle.file_words.specs.Sorting.{Line}
use Rattle.front_core.specs.Asked.{name_in, first_in, second_in}
use Rattle.front_core.specs.Front.{Promises, FrontRun, IsDone}
use Rattle.front_core.specs.Paired.{Compares, IsPaired}
use Rattle.cmd_miter.specs.MiterReport.{miter_task, miter_log_task}
use Rattle.front_formula.specs.Accompanied.{IsAccompanied}
use Rattle.front_formula.specs.Logged.{IsLogged}
use Rattle.front_formula.specs.MiterAsked.{Picked, picked, AsksForMiter}

-- a run of one of the two tasks, over a text and that of the source, with all that commands promise
abbrev pub WritesMiter : Compares
WritesMiter text source out note status = CommandPromise (miter_task text) (run_of [] source out note status)

abbrev pub WritesMiterLog : ℕ → Compares
WritesMiterLog budget text source out note status =
    CommandPromise (miter_log_task budget text) (run_of [] source out note status)

-- The miter is written first, and where there is one the two are compared as by `equiv`. Where they are equal the log comes
-- last. Each of the three reads the two files.
abbrev pub miter_work : Compares → ℕ → Option (List ℕ) → Option (List ℕ) → Option (List ℕ) → Option (List ℕ) → Does
miter_work compares budget first second formula log =
    IsLogged log
    (IsAccompanied formula (IsPaired first second WritesMiter) (IsPaired first second compares))
    (IsPaired first second (WritesMiterLog budget))

-- The answer of `equiv` went to the outputs of the line, the miter to the file of `--formula`, and the log to that of `--log`.
abbrev pub IsMiterWritten : Compares → ℕ → Line → Picked → FrontRun → Type 0
IsMiterWritten compares budget line p r =
    IsDone line
    (miter_work compares budget (name_in (first_in line.operands)) (name_in (second_in line.operands)) p.formula p.log) r

-- The words ask for a comparison and its miter, which were written, or why there are none was reported.
pub record IsMiterServed (p : Promises) (r : FrontRun) : Type 0 where
  pub line : Line
  pub budget : ℕ
  pub asks : AsksForMiter r.words line budget
  pub served : IsMiterWritten (p.compares budget) budget line (picked line.words) r
