-- When a command has to give an answer.
use Rattle.std.specs.Prelude.{ℕ, List}
use Rattle.command_line.specs.declared.command.Command.{Command}
use Rattle.frame_core.specs.declared.status.Status.{Status}
use Rattle.frame_core.specs.Run.{Run}
use Rattle.frame_core.specs.Promise.{AllSteady}
use Rattle.cmd_lines.specs.Runs.{Runs}

-- The arguments of `r` asked for `command`, and its source held an input that has an answer.
pub record AsksWell (command : Command) (CanAnswer : List ℕ → Type 0) (r : Run) : Type 0 where
  pub input : List ℕ
  pub run : Runs command r input
  pub can : CanAnswer input

-- Such a run has to give an answer: if no call failed, no read and no write, and memory didn't run out, its
-- status is that of an answer, not of an error.
abbrev pub MustAnswer : (Run → Type 0) → (Status → Type 0) → Run → Type 0
MustAnswer Asks IsAnswer r = Asks r → AllSteady r → IsAnswer r.status
