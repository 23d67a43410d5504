-- How a run ends of a front that writes the values of two netlists too.
use Rattle.std.specs.Prelude.{◌⊎◌, List, [], Bool}
use Rattle.format_names.specs.declared.formats.FormatPair.{FormatPair}
use Rattle.frame_core.specs.Run.{run_of}
use Rattle.frame_core.specs.Promise.{CommandPromise}
use Rattle.file_words.specs.Sorting.{Line}
use Rattle.front_core.specs.Asked.{name_in, first_in, second_in}
use Rattle.front_core.specs.Front.{Promises, FrontRun, IsDone, IsOutOfMemory}
use Rattle.front_core.specs.Paired.{Compares, IsPaired}
use Rattle.front_large.specs.LargeRuns as large
use Rattle.cmd_at.specs.AtReport.{at_task}
use Rattle.front_at.specs.AtAsked.{AsksForValues, AsksForNone}

-- a run of the task over a text and that of the source, with all that commands promise
abbrev pub WritesValues : FormatPair → List Bool → Compares
WritesValues formats bits text source out note status =
    CommandPromise (at_task formats bits text) (run_of [] source out note status)

-- The values of the netlists of the two files went to the output.
abbrev pub AreValuesDone : FormatPair → Line → List Bool → FrontRun → Type 0
AreValuesDone formats line bits r =
    IsDone line (IsPaired (name_in (first_in line.operands)) (name_in (second_in line.operands)) (WritesValues formats bits)) r

-- The words ask for values, which were written, or why there are none was reported.
pub record AreValuesServed (formats : FormatPair) (r : FrontRun) : Type 0 where
  pub line : Line
  pub bits : List Bool
  pub asks : AsksForValues r.words line bits
  pub served : AreValuesDone formats line bits r

-- They ask for none, and the run is one of a front without `--at`.
pub record IsOther (p : Promises) (r : FrontRun) : Type 0 where
  pub none : AsksForNone r.words
  pub served : large.IsServed p r

-- One of these, or memory ran out before words were read that are no command line as they are.
abbrev pub IsServed : FormatPair → Promises → FrontRun → Type 0
IsServed formats p r = AreValuesServed formats r ⊎ (IsOther p r ⊎ IsOutOfMemory r)
