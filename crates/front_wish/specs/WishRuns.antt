-- How a run ends that improves a netlist by wishes.
use Rattle.frame_core.specs.Outside.{PortState}
use Rattle.frame_core.specs.Task.{Task}
use Rattle.cmd_wishes.specs.WishReport.{wished_task}
use Rattle.front_core.specs.Front.{FrontRun, IsDone}
use Rattle.front_formula.specs.FormulaRuns.{reads_line}
use Rattle.front_guide.specs.Guided.{up_to, IsFollowed}
use Rattle.front_wish.specs.AskedWishes.{Wish}

abbrev pub task_of : Wish → Task
task_of w = wished_task w.format w.settings w.wishes

-- The command ran over the file of the line, with all that commands promise, and its answer went to the output.
abbrev pub IsWishDone : Wish → FrontRun → Type 0
IsWishDone w r = IsDone w.line (reads_line w.line (task_of w)) r

-- It did, up to a state of the notes, and after it came nothing, or a text for people.
pub record IsWishServed (w : Wish) (r : FrontRun) : Type 0 where
  pub between : PortState
  pub done : IsWishDone w (up_to between r)
  pub followed : IsFollowed between r.note.1 r.status
