-- The promise of `agree`, besides that of every command.
use Rattle.std.specs.Prelude.{◌≡◌, ℕ, List}
use Rattle.command_line.specs.declared.command.Command.TheVariants.{Agree}
use Rattle.command_line.specs.CommandLine.{AsksFor}
use Rattle.cmd_agree.specs.declared.agree.AgreeAnswer.{AgreeAnswer}
use Rattle.cmd_agree.specs.declared.agree.AgreeAnswer.TheVariants.{Agrees, Differs}
use Rattle.cmd_agree.specs.declared.agree.AgreeError.{AgreeError}
use Rattle.frame_core.specs.declared.status.Status.TheVariants.{Done, Undecided, Refused}
use Rattle.cmd_agree.specs.Agree.{AgreeInput, IsQuestion, IsAnswer, HasAnswer, HasFault}
use Rattle.cmd_agree.specs.AgreeReport.{agree_reply, agree_refusal, agree_task}
use Rattle.frame_core.specs.Run.{Run}
use Rattle.cmd_lines.specs.Runs.{Runs}
use Rattle.frame_core.specs.Promise.{InputHeld, OutputHeld, Stands, ReportsError, Replies}

-- The first difference was written to the output.
pub record ReportsDifference (r : Run) (input : List ℕ) : Type 0 where
  pub output : ℕ
  pub row : ℕ
  pub has : HasAnswer input (Differs output row)
  pub stands : Stands r (agree_reply (Differs output row))

pub record AgreePromise (r : Run) : Type 0 where
  -- Every question is answered.
  pub complete : (input : List ℕ) (question : AgreeInput)
      → Runs Agree r input
      → IsQuestion input question
      → OutputHeld r
      → Replies agree_task r input
  -- The answer is `agrees` with the status 0 if the chain has every specified value; else the least output with a
  -- difference and its least such row, with the status 8.
  pub answers : (input : List ℕ) (question : AgreeInput) (answer : AgreeAnswer)
      → Runs Agree r input
      → IsQuestion input question
      → IsAnswer question answer
      → OutputHeld r
      → Stands r (agree_reply answer)
  -- These statuses have no other cause, and the status 4 never occurs.
  pub agrees_only : (input : List ℕ)
      → Runs Agree r input
      → r.status ≡ Done
      → HasAnswer input Agrees × Stands r (agree_reply Agrees)
  pub differs_only : (input : List ℕ)
      → Runs Agree r input
      → r.status ≡ Refused
      → ReportsDifference r input
  pub decided : AsksFor r.words Agree → r.status ≡ Undecided → ⊥
  -- For any other input its first fault is reported.
  pub refused : (input : List ℕ) (error : AgreeError)
      → Runs Agree r input
      → HasFault input error
      → InputHeld r
      → ReportsError r (agree_refusal error)
