-- Running a command is a run of the command that the arguments ask for.
use Rattle.std.specs.Prelude.{◌≡◌, ℕ, List}
use Rattle.std.proofs.Common.{sym, subst}
use Rattle.command_line.specs.declared.command.Command.{Command}
use Rattle.frame_core.specs.Run.{Run, Outcome, IsRun}
use Rattle.chain_app.specs.Tasks.{task_of}

pub dispatched : (asked command : Command) (run : List (List ℕ) → Run) → asked ≡ command →
    ((words : List (List ℕ)) → (x : Outcome) × IsRun (task_of command) (run words) x) → (words : List (List ℕ)) →
    (x : Outcome) × IsRun (task_of asked) (run words) x
dispatched asked command run e done = subst (λ (c : Command). (words : List (List ℕ)) → (x : Outcome) × IsRun (task_of c) (run words) x) (sym e) done
