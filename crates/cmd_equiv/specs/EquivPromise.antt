-- The promise of `equiv`, besides that of every command.
use Rattle.std.specs.Prelude.{◌≡◌, ℕ, ◌≤◌, ◌⊎◌, List, length}
use Rattle.net_theory.specs.Document.{Document}
use Rattle.equiv_run.specs.declared.answer.EquivOutcome.{EquivOutcome}
use Rattle.equiv_run.specs.declared.answer.EquivOutcome.TheVariants as standings
use Rattle.equiv_run.specs.declared.answer.CompareError.{CompareError}
use Rattle.equiv_run.specs.declared.answer.CompareError.TheVariants.{DifferentInterface}
use Rattle.equiv_run.specs.Pairs.{AreTwo, ShareInterface, IsAnswer, HasOtherInterface}
use Rattle.net_theory.specs.Limits.{most_of_two}
use Rattle.command_line.specs.declared.command.Command.TheVariants.{Equiv}
use Rattle.frame_core.specs.declared.status.Status.TheVariants.{Done, Undecided, Refused}
use Rattle.frame_core.specs.Run.{Run}
use Rattle.frame_core.specs.Promise.{InputHeld, OutputHeld, Stands, ReportsError, Replies}
use Rattle.cmd_equiv.specs.EquivReport.{equiv_reply, equiv_refusal, HasComparedFault, equiv_task}
use Rattle.cmd_lines.specs.Runs.{Runs}

-- The bytes are two netlists with the same interface.
pub record AreComparable (bytes : List ℕ) : Type 0 where
  pub first : Document
  pub second : Document
  pub two : AreTwo bytes first second
  pub interface : ShareInterface first second

-- The output reports `outcome`, and proves it.
pub record ReportsStanding (budget : ℕ) (outcome : EquivOutcome) (r : Run) (input : List ℕ) : Type 0 where
  pub text : List ℕ
  pub reported : IsAnswer budget input text outcome
  pub stands : Stands r (equiv_reply (record { text = text; outcome = outcome }))

-- The netlists have different interfaces, and this is reported.
pub record ReportsInterface (r : Run) (input : List ℕ) : Type 0 where
  pub other : HasOtherInterface input
  pub reported : ReportsError r (equiv_refusal DifferentInterface)

pub record EquivPromise (r : Run) : Type 0 where
  -- Two netlists with the same interface are compared.
  pub complete : (budget : ℕ) (input : List ℕ)
      → Runs (Equiv budget) r input
      → length input ≤ most_of_two
      → AreComparable input
      → OutputHeld r
      → Replies (equiv_task budget) r input
  -- The status 0 occurs only if they are equivalent, with a log that refutes the miter.
  pub equal_only : (budget : ℕ) (input : List ℕ)
      → Runs (Equiv budget) r input
      → r.status ≡ Done
      → ReportsStanding budget standings.Equal r input
  -- The status 4 occurs only with a log that reaches the budget.
  pub undecided_only : (budget : ℕ) (input : List ℕ)
      → Runs (Equiv budget) r input
      → r.status ≡ Undecided
      → ReportsStanding budget standings.Undecided r input
  -- The status 8 occurs only if they differ as reported, or have different interfaces.
  pub differ_only : (budget : ℕ) (input : List ℕ)
      → Runs (Equiv budget) r input
      → r.status ≡ Refused
      → ReportsStanding budget standings.Differ r input ⊎ ReportsInterface r input
  -- For an input that can't be compared its first fault is reported.
  pub refused : (budget : ℕ) (input : List ℕ) (error : CompareError)
      → Runs (Equiv budget) r input
      → HasComparedFault input error
      → InputHeld r
      → ReportsError r (equiv_refusal error)
