-- What running a command promises.
use Rattle.std.specs.Prelude.{ℕ, List}
use Rattle.frame_core.specs.declared.status.Status.{Status}
use Rattle.frame_core.specs.Outside.{PortState}
use Rattle.frame_core.specs.Task.{Task, IsTask}
use Rattle.frame_core.specs.Run.{Outcome, IsRun, run_of}
use Rattle.frame_core.specs.Promise.{CommandPromise}

pub record IsPerformed (task : Task) (source out note : PortState × PortState) (status : Status) : Type 0 where
  -- It is a run with an outcome, whatever the arguments were.
  pub run : (words : List (List ℕ)) → (outcome : Outcome) × IsRun task (run_of words source out note status) outcome
  -- It keeps what every command promises.
  pub promise : (words : List (List ℕ)) → IsTask task → CommandPromise task (run_of words source out note status)
