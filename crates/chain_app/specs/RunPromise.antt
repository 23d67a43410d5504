-- The promise of every run, whatever its arguments are.
use Rattle.std.specs.Prelude.{◌≡◌}
use Rattle.command_line.specs.declared.command.Command.{Command}
use Rattle.command_line.specs.CommandLine.{AsksFor}
use Rattle.frame_core.specs.declared.status.Status.TheVariants.{Usage}
use Rattle.frame_core.specs.Run.{Run}
use Rattle.chain_app.specs.Ending.{IsIdle}
use Rattle.frame_core.specs.Promise.{CommandPromise}
use Rattle.chain_app.specs.Tasks.{task_of}

pub record RunPromise (r : Run) : Type 0 where
  -- Arguments that ask for no command are reported as such, and nothing else happens.
  pub usage : ((command : Command) → AsksFor r.words command → ⊥) → IsIdle r
  pub usage_only : r.status ≡ Usage → (command : Command) → AsksFor r.words command → ⊥
  -- A command keeps what every command promises.
  pub keeps : (command : Command) → AsksFor r.words command → CommandPromise (task_of command) r
