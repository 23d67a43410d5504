-- `equiv` has to answer for any two netlists with the same interface.
use Rattle.std.specs.Prelude.{ℕ, ◌≤◌, List, length}
use Rattle.std.proofs.Common.{sym, subst, refl, inl, inr}
use Rattle.equiv_run.specs.declared.answer.EquivOutcome.{EquivOutcome}
use Rattle.equiv_run.specs.declared.answer.EquivOutcome.TheVariants as standings
use Rattle.net_theory.specs.Limits.{most_of_two}
use Rattle.command_line.specs.declared.command.Command.TheVariants.{Equiv}
use Rattle.frame_core.specs.Task.{IsAnswerStatus}
use Rattle.frame_core.specs.Run.{Run}
use Rattle.cmd_lines.specs.Answering.{AsksWell, MustAnswer}
use Rattle.cmd_equiv.specs.EquivReport.{standing_status, Comparison}
use Rattle.cmd_equiv.specs.EquivPromise.{AreComparable, EquivPromise}

-- The bytes, no more than are read, are two netlists with the same interface.
abbrev pub CanBeCompared : List ℕ → Type 0
CanBeCompared bytes = (length bytes ≤ most_of_two) × AreComparable bytes

status_of_standing : (s : EquivOutcome) → IsAnswerStatus (standing_status s)
status_of_standing standings.Equal = inl refl
status_of_standing standings.Undecided = inr (inl refl)
status_of_standing standings.Differ = inr (inr refl)

pub equiv_must_answer : (r : Run) (budget : ℕ) → EquivPromise r → MustAnswer (AsksWell (Equiv budget) CanBeCompared) IsAnswerStatus r
equiv_must_answer r budget promise asks steady =
    let got = promise.complete budget asks.input asks.run asks.can.0 asks.can.1 steady.output in
    let comparison : Comparison = got.answer in
    subst IsAnswerStatus (sym got.stands.status_is) (status_of_standing comparison.outcome)
