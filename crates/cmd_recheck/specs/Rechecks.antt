-- The promise of `recheck` for both kinds of certificates.
use Rattle.std.specs.Prelude.{◌≡◌, ℕ, ◌<◌, ◌≤◌, List, length}
use Rattle.command_line.specs.declared.command.Command.{Command}
use Rattle.command_line.specs.CommandLine.{AsksFor}
use Rattle.frame_core.specs.declared.status.Status.TheVariants.{Done, Limit, Undecided, Refused}
use Rattle.frame_core.specs.Task.{Task}
use Rattle.frame_core.specs.Run.{Run}
use Rattle.frame_core.specs.Promise.{InputHeld, OutputHeld, Stands, ReportsError, Replies, Faults}
use Rattle.cmd_lines.specs.Runs.{Runs}
use Rattle.depth_theory.specs.Verdicts.{most_of_certificate}

-- `command` has the task `task`. `Spells` says which bytes are the text of a valid certificate, `verdict` is its
-- verdict, and the predicate on runs says what the reported verdict means.
pub record Rechecks {Cert : Type 0} (command : Command) (task : Task) (Spells : List ℕ → Cert →
    Type 0) (verdict : Cert → task.Answer) (HasReply : Run → List ℕ → Type 0) (r : Run) : Type 0 where
  -- A valid certificate gets an answer.
  pub complete : (input : List ℕ) (b : Cert)
      → Runs command r input
      → length input ≤ most_of_certificate
      → Spells input b
      → OutputHeld r
      → Replies task r input
  -- The answer is the line of its verdict, with the status 0.
  pub accepted : (input : List ℕ) (b : Cert)
      → Runs command r input
      → length input ≤ most_of_certificate
      → Spells input b
      → OutputHeld r
      → Stands r (task.reply (verdict b))
  -- No other input gets such a line, and what it says is true.
  pub accepted_only : (input : List ℕ)
      → Runs command r input
      → r.status ≡ Done
      → Replies task r input
  -- It is true for the tables and the basis that the bytes spell.
  pub answers : (input : List ℕ)
      → Runs command r input
      → r.status ≡ Done
      → HasReply r input
  -- For any other input its first fault is reported.
  pub refused : (input : List ℕ) (fault : task.Fault)
      → Runs command r input
      → task.Meets input fault
      → InputHeld r
      → ReportsError r (task.refusal fault)
  -- The status 8 occurs only for faults, 3 only for an input that is too long, and 4 never.
  pub refused_only : (input : List ℕ)
      → Runs command r input
      → r.status ≡ Refused
      → Faults task r input
  pub limit_only : (input : List ℕ)
      → Runs command r input
      → r.status ≡ Limit
      → most_of_certificate < length input
  pub decided : AsksFor r.words command → r.status ≡ Undecided → ⊥
