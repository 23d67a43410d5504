-- `gen` always has to answer.
use Rattle.std.specs.Prelude.{◌≡◌, ℕ}
use Rattle.command_line.specs.declared.command.GenAction.{GenAction}
use Rattle.command_line.specs.declared.command.GenAction.TheVariants.{Write, Improve}
use Rattle.command_line.specs.declared.command.Command.TheVariants.{Gen}
use Rattle.command_line.specs.CommandLine.{AsksFor}
use Rattle.frame_core.specs.declared.status.Status.{Status}
use Rattle.frame_core.specs.declared.status.Status.TheVariants.{Done}
use Rattle.frame_core.specs.Run.{Run}
use Rattle.cmd_lines.specs.Answering.{MustAnswer}
use Rattle.cmd_gen.specs.GenPromise.{GenPromise}

pub gen_must_answer : (r : Run) (blocks : ℕ) (action : GenAction) → GenPromise r → MustAnswer (λ (x : Run). AsksFor x.words (Gen blocks action)) (λ (s : Status). s ≡ Done) r
gen_must_answer r blocks Write promise asks steady = (promise.complete blocks asks steady.output).status_is
gen_must_answer r blocks Improve promise asks steady = (promise.improved blocks asks steady).stands.status_is
