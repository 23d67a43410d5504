-- The task of `gen` is well formed, and its runs keep the promise.
use Rattle.std.specs.Prelude.{◌≡◌, ℕ, ◌⊎◌, List, []}
use Rattle.std.proofs.Common.{◌∙◌, ap, refl, inl, inr}
use Rattle.std.proofs.Math.Logic.{⊎_elim}
use Rattle.command_line.specs.declared.command.GenAction.{GenAction}
use Rattle.command_line.specs.declared.command.GenAction.TheVariants.{Write, Improve}
use Rattle.command_line.specs.declared.command.Command.TheVariants.{Gen}
use Rattle.command_line.specs.CommandLine.{AsksFor}
use Rattle.frame_core.specs.declared.status.Status.{Status}
use Rattle.frame_core.specs.declared.status.Status.TheVariants as statuses
use Rattle.frame_core.specs.Reported.{Reply}
use Rattle.frame_core.specs.Task.{IsTask, IsAnswerable}
use Rattle.frame_core.specs.TaskLaws.{from_nothing_task}
use Rattle.frame_core.specs.Run.{Run, Outcome, ReadFault, TooLong, Memory, Answered, Truncated, OutOfMemoryMidway, ReportTruncated, NoAnswer, IsRun}
use Rattle.frame_core.specs.Promise.{OutputHeld, Stands, Replies, ReportTruncated as TruncatedReport, CommandPromise}
use Rattle.frame_core.specs.ReadOffLaws.{gets}
use Rattle.cmd_improve.specs.ImproveReport.{Improvement, improve_reply}
use Rattle.cmd_gen.specs.GenReport.{gen_reply, IsImprovedNetlist, gen_task}
use Rattle.cmd_gen.specs.GenPromise.{ImprovesNetlist, GenPromise}

pub gen_is_task : (blocks : ℕ) (action : GenAction) → IsTask (gen_task blocks action)
gen_is_task blocks Write = from_nothing_task (Unit {0}) (λ (u : Unit {0}). Unit {0}) (λ (u : Unit {0}). gen_reply blocks) (λ u. inl refl)
gen_is_task blocks Improve = from_nothing_task Improvement (IsImprovedNetlist blocks) improve_reply (λ i. inl refl)

-- the empty input has no fault
answerable : (blocks : ℕ) (action : GenAction) → IsAnswerable (gen_task blocks action) []
answerable blocks Write = record { within = λ beyond. beyond; sound = λ fault meets. meets }
answerable blocks Improve = record { within = λ beyond. beyond; sound = λ fault meets. meets }

complete : (blocks : ℕ) (r : Run) → CommandPromise (gen_task blocks Write) r → OutputHeld r → Stands r (gen_reply blocks)
complete blocks r promise held = (gets (gen_task blocks Write) r [] (λ answer. refl) promise refl (answerable blocks Write) held).stands

done_only : (blocks : ℕ) (r : Run) → CommandPromise (gen_task blocks Write) r → r.status ≡ statuses.Done → Stands r (gen_reply blocks)
done_only blocks r promise is = (promise.done_only is).holds.stands

-- ---- if the netlist is improved

improves : (blocks : ℕ) (r : Run) (input : List ℕ) → Replies (gen_task blocks Improve) r input → ImprovesNetlist blocks r
improves blocks r input got = record { improvement = got.answer; is = got.has; stands = got.stands }

answered : (blocks : ℕ) (r : Run) → CommandPromise (gen_task blocks Improve) r → OutputHeld r → ImprovesNetlist blocks r ⊎ TruncatedReport (gen_task blocks Improve) r []
answered blocks r promise held =
    ⊎_elim
    (λ (got : Replies (gen_task blocks Improve) r []). inl (improves blocks r [] got))
    (λ (truncated : TruncatedReport (gen_task blocks Improve) r []). inr truncated)
    (promise.answered [] refl (answerable blocks Improve) held)

improved_only : (blocks : ℕ) (r : Run) → CommandPromise (gen_task blocks Improve) r → r.status ≡ statuses.Done → ImprovesNetlist blocks r
improved_only blocks r promise is = let of = promise.done_only is in improves blocks r of.bytes of.holds

-- ---- its statuses

-- the status is one of them
abbrev IsOne : Status → Type 0
IsOne s = (s ≡ statuses.Done) ⊎ ((s ≡ statuses.WriteFault) ⊎ (s ≡ statuses.Memory))

one_of : (blocks : ℕ) (action : GenAction) (r : Run) (o : Outcome) → IsRun (gen_task blocks action) r o → IsOne r.status
one_of blocks Write r ReadFault run = absurd run.on_source
one_of blocks Write r TooLong run = absurd run.on_source
one_of blocks Write r Memory run = inr (inr run.status_is)
one_of blocks Write r (Answered reply) run = inl (run.status_is ∙ ap (λ (x : Reply). x.status) run.judged.1.is)
one_of blocks Write r Truncated run = inr (inl run.status_is)
one_of blocks Write r OutOfMemoryMidway run = inr (inr run.status_is)
one_of blocks Write r (ReportTruncated reply) run = inr (inl run.status_is)
one_of blocks Write r (NoAnswer refusal) run = absurd run.judged.1.fault
one_of blocks Improve r ReadFault run = absurd run.on_source
one_of blocks Improve r TooLong run = absurd run.on_source
one_of blocks Improve r Memory run = inr (inr run.status_is)
one_of blocks Improve r (Answered reply) run = inl (run.status_is ∙ ap (λ (x : Reply). x.status) run.judged.1.is)
one_of blocks Improve r Truncated run = inr (inl run.status_is)
one_of blocks Improve r OutOfMemoryMidway run = inr (inr run.status_is)
one_of blocks Improve r (ReportTruncated reply) run = inr (inl run.status_is)
one_of blocks Improve r (NoAnswer refusal) run = absurd run.judged.1.fault

untouched : (blocks : ℕ) (action : GenAction) (r : Run) → CommandPromise (gen_task blocks action) r → r.source' ≡ r.source
untouched blocks Write r promise = promise.untouched refl
untouched blocks Improve r promise = promise.untouched refl

-- The promise of `gen`.
pub gen_promised : (r : Run) → ((blocks : ℕ) (action : GenAction) → AsksFor r.words (Gen blocks action) →
    CommandPromise (gen_task blocks action) r) →
    ((blocks : ℕ) (action : GenAction) → AsksFor r.words (Gen blocks action) → (o : Outcome) ×
    IsRun (gen_task blocks action) r o) → GenPromise r
gen_promised r keeps ran = record {
  complete = λ blocks asks held. complete blocks r (keeps blocks Write asks) held;
  done_only = λ blocks asks is. done_only blocks r (keeps blocks Write asks) is;
  improved = λ blocks asks steady. improves blocks r [] ((keeps blocks Improve asks).complete [] refl (answerable blocks Improve) steady);
  answered = λ blocks asks held. answered blocks r (keeps blocks Improve asks) held;
  improved_only = λ blocks asks is. improved_only blocks r (keeps blocks Improve asks) is;
  untouched = λ blocks action asks. untouched blocks action r (keeps blocks action asks);
  others = λ blocks action asks. let run = ran blocks action asks in one_of blocks action r run.0 run.1;
}
