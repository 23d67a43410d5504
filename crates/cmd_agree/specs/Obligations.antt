-- `agree` has to answer every question.
use Rattle.std.specs.Prelude.{◌≡◌, ℕ, ◌⊎◌, List}
use Rattle.std.proofs.Common.{sym, subst, refl, inl, inr}
use Rattle.command_line.specs.declared.command.Command.TheVariants.{Agree}
use Rattle.frame_core.specs.declared.status.Status.{Status}
use Rattle.frame_core.specs.declared.status.Status.TheVariants.{Done, Refused}
use Rattle.frame_core.specs.Run.{Run}
use Rattle.cmd_lines.specs.Answering.{AsksWell, MustAnswer}
use Rattle.cmd_agree.specs.declared.agree.AgreeAnswer.{AgreeAnswer}
use Rattle.cmd_agree.specs.declared.agree.AgreeAnswer.TheVariants.{Agrees, Differs}
use Rattle.cmd_agree.specs.Agree.{AgreeInput, IsQuestion}
use Rattle.cmd_agree.specs.AgreeReport.{answer_status}
use Rattle.cmd_agree.specs.AgreePromise.{AgreePromise}

-- The bytes are the spelling of a question.
abbrev pub HasQuestion : List ℕ → Type 0
HasQuestion bytes = (question : AgreeInput) × IsQuestion bytes question

-- the chain agrees, or it differs
abbrev pub IsAgreeStatus : Status → Type 0
IsAgreeStatus s = (s ≡ Done) ⊎ (s ≡ Refused)

status_of_answer : (a : AgreeAnswer) → IsAgreeStatus (answer_status a)
status_of_answer Agrees = inl refl
status_of_answer (Differs output row) = inr refl

pub agree_must_answer : (r : Run) → AgreePromise r → MustAnswer (AsksWell Agree HasQuestion) IsAgreeStatus r
agree_must_answer r promise asks steady =
    let got = promise.complete asks.input asks.can.0 asks.run asks.can.1 steady.output in
    subst IsAgreeStatus (sym got.stands.status_is) (status_of_answer got.answer)
