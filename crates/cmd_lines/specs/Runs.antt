-- Runs of a command on an input.
use Rattle.std.specs.Prelude.{◌≡◌, ℕ, List, Some}
use Rattle.command_line.specs.declared.command.Command.{Command}
use Rattle.command_line.specs.CommandLine.{AsksFor}
use Rattle.frame_core.specs.Run.{Run}

-- The arguments of `r` asked for `command`, and its source held `input`.
pub record Runs (command : Command) (r : Run) (input : List ℕ) : Type 0 where
  pub asks : AsksFor r.words command
  pub reported : r.source.bytes ≡ Some input
