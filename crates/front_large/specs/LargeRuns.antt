-- How a run ends of a front that answers large questions too.
use Rattle.std.specs.Prelude.{◌⊎◌}
use Rattle.frame_core.specs.Task.{Task}
use Rattle.file_io.specs.Served.{IsDelivered}
use Rattle.file_words.specs.Sorting.{Line}
use Rattle.front_core.specs.Asked.{name_in}
use Rattle.front_core.specs.Front.{Promises, FrontRun, IsOutOfMemory}
use Rattle.front_formula.specs.FormulaRuns as formula
use Rattle.cmd_part.specs.PartReport.{part_task}
use Rattle.cmd_recheck.specs.LongReport.{long_task, long_depth_task}
use Rattle.front_large.specs.declared.large.Large.{Large}
use Rattle.front_large.specs.declared.large.Large.TheVariants.{Part, Steps, Levels}
use Rattle.front_large.specs.LargeAsked.{AsksForLarge, AsksForNone}

-- the task of a question
abbrev pub task_of : Large → Task
task_of (Part part) = part_task part
task_of (Steps most) = long_task most
task_of (Levels most) = long_depth_task most

-- The answer over the bytes of the file that is read went to the output.
abbrev pub IsLargeDone : Line → Large → FrontRun → Type 0
IsLargeDone line asked r =
    IsDelivered (name_in line.output) (formula.reads_line line (task_of asked)) r.files r.source r.out r.note r.status

-- The words ask for a large question, which was answered, or why there is no answer was reported.
pub record IsLargeServed (r : FrontRun) : Type 0 where
  pub line : Line
  pub asked : Large
  pub asks : AsksForLarge r.words line asked
  pub served : IsLargeDone line asked r

-- They ask for none, and the run is one of a front without these questions.
pub record IsOther (p : Promises) (r : FrontRun) : Type 0 where
  pub none : AsksForNone r.words
  pub served : formula.IsServed p r

-- One of these, or memory ran out before words were read that are no command line as they are.
abbrev pub IsServed : Promises → FrontRun → Type 0
IsServed p r = IsLargeServed r ⊎ (IsOther p r ⊎ IsOutOfMemory r)
