-- How a run ends, whatever its arguments are.
use Rattle.std.specs.Prelude.{◌≡◌}
use Rattle.command_line.specs.declared.command.Command.{Command}
use Rattle.command_line.specs.CommandLine.{AsksFor}
use Rattle.frame_core.specs.declared.status.Status.TheVariants.{Usage}
use Rattle.frame_core.specs.Outside.{Writes}
use Rattle.frame_core.specs.Reported.{error_line, usage}
use Rattle.frame_core.specs.Run.{Outcome, Run, IsRun}
use Rattle.chain_app.specs.Tasks.{task_of}

-- the arguments asked for no command, or for one whose run had an outcome
pub data Ending : Type 0 where
  Idle : Ending
  Ran : (command : Command) (outcome : Outcome) → Ending

-- Arguments that aren't a command line are reported as such, and nothing else happens.
pub record IsIdle (r : Run) : Type 0 where
  pub no_line : (command : Command) → AsksFor r.words command → ⊥
  pub status_is : r.status ≡ Usage
  pub on_source : r.source' ≡ r.source
  pub on_out : r.out' ≡ r.out
  pub on_note : Writes r.note r.note' (error_line usage)

abbrev pub IsEnding : Run → Ending → Type 0
IsEnding r Idle = IsIdle r
IsEnding r (Ran command outcome) = AsksFor r.words command × IsRun (task_of command) r outcome
