-- Lemmas that derive a command's own promise from the promise of every command.
use Rattle.std.specs.Prelude.{◌≡◌, ℕ, ◌⊎◌, List, Option, None}
use Rattle.std.proofs.Common.{sym, ◌∙◌, subst}
use Rattle.std.proofs.Math.Logic.{⊎_elim}
use Rattle.frame_core.specs.declared.status.Status.{Status}
use Rattle.frame_core.specs.declared.status.Status.TheVariants.{Done, Limit, Undecided, Refused}
use Rattle.frame_core.specs.Reported.{Reply}
use Rattle.frame_core.specs.Task.{Task, IsBeyond, IsAnswerable}
use Rattle.frame_core.specs.Run.{Run, HasInput, ReportsPrefix}
use Rattle.frame_core.specs.Promise.{OutputHeld, Stands, Replies, Faults, ReportTruncated, OfInput, IsTooLong, CommandPromise}
use Rattle.frame_core.specs.OutcomeLaws.{of_input}

-- a command without a report has none that could be truncated
pub no_report : {A : Type 0} (task : Task) (r : Run) (input : List ℕ) → ((answer : task.Answer) → (task.reply answer).report ≡ None) → ReportTruncated task r input → A
no_report task r input none truncated = absurd (subst (λ (report : Option (List ℕ)). ReportsPrefix r.note truncated.between report) (none truncated.answer) truncated.prefix)

-- so it answers even if the notes fail
pub gets : (task : Task) (r : Run) (input : List ℕ) → ((answer : task.Answer) → (task.reply answer).report ≡ None) →
    CommandPromise task r → HasInput task.reads r.source.bytes input → IsAnswerable task input → OutputHeld r →
    Replies task r input
gets task r input none promise reported may held =
    ⊎_elim
    (λ (got : Replies task r input). got)
    (λ (truncated : ReportTruncated task r input). no_report task r input none truncated)
    (promise.answered input reported may held)

-- With the status 0 the input has its answer.
pub done_replies : (task : Task) (r : Run) (input : List ℕ) → CommandPromise task r → HasInput task.reads r.source.bytes input → r.status ≡ Done → Replies task r input
done_replies task r input promise reported is = of_input task r (Replies task r) input (promise.done_only is) reported

-- The same with the status of an undecided answer.
pub answer_replies : (task : Task) (r : Run) (input : List ℕ) → CommandPromise task r → HasInput task.reads r.source.bytes input → (r.status ≡ Done) ⊎ (r.status ≡ Undecided) → Replies task r input
answer_replies task r input promise reported is =
    ⊎_elim
    (λ (done : r.status ≡ Done). done_replies task r input promise reported done)
    (λ (left : r.status ≡ Undecided). of_input task r (Replies task r) input (promise.undecided_only left) reported)
    is

-- No run has the status `Refused` if neither an answer nor a fault has it.
pub refused_never : (task : Task) (r : Run) → ((answer : task.Answer) → (task.reply answer).status ≡ Refused → ⊥) →
    ((fault : task.Fault) → (task.refusal fault).status ≡ Refused → ⊥) → CommandPromise task r → r.status ≡ Refused → ⊥
refused_never task r no_answer no_fault promise is =
    let of = promise.refused_only is in
    ⊎_elim
    (λ (got : Replies task r of.bytes). no_answer got.answer (sym got.stands.status_is ∙ is))
    (λ (none : Faults task r of.bytes). no_fault none.fault (sym none.reported.status_is ∙ is))
    of.holds

-- If no fault has the status of a limit, that status means that the input is too long.
pub limit_beyond : (task : Task) (r : Run) (input : List ℕ) →
    ((fault : task.Fault) → (task.refusal fault).status ≡ Limit → ⊥) → CommandPromise task r →
    HasInput task.reads r.source.bytes input → r.status ≡ Limit → IsBeyond task.reads input
limit_beyond task r input never promise reported is =
    ⊎_elim
    (λ (none : OfInput task r (Faults task r)). absurd (never none.holds.fault (sym none.holds.reported.status_is ∙ is)))
    (λ (long : IsTooLong task r). long.beyond input reported)
    (promise.limit_only is)

-- ---- commands all of whose answers have the status 0

not_done : {A : Type 0} (r : Run) (reply : Reply) (s : Status) → reply.status ≡ Done → Stands r reply → r.status ≡ s → (Done ≡ s → ⊥) → A
not_done r reply s done stands is other = absurd (other (sym done ∙ sym stands.status_is ∙ is))

-- With the status `Refused` the input has a fault.
pub refused_faults : (task : Task) (r : Run) → ((answer : task.Answer) → (task.reply answer).status ≡ Done) → CommandPromise task r → r.status ≡ Refused → OfInput task r (Faults task r)
refused_faults task r done promise is =
    let of = promise.refused_only is in
    record {
      bytes = of.bytes;
      are = of.are;
      holds = ⊎_elim
          (λ (got : Replies task r of.bytes). not_done r (task.reply got.answer) Refused (done got.answer) got.stands is (λ e. cc))
          (λ (none : Faults task r of.bytes). none)
          of.holds;
    }

-- The status `Undecided` never occurs.
pub never_undecided : (task : Task) (r : Run) → ((answer : task.Answer) → (task.reply answer).status ≡ Done) → CommandPromise task r → r.status ≡ Undecided → ⊥
never_undecided task r done promise is =
    let got = promise.undecided_only is in
    not_done r (task.reply got.holds.answer) Undecided (done got.holds.answer) got.holds.stands is (λ e. cc)
