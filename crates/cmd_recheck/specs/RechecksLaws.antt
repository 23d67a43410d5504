-- The runs of a task keep the promise of `recheck` for a kind of certificates.
use Rattle.std.specs.Prelude.{◌≡◌, ℕ, ◌⊎◌, ◌<◌, ◌≤◌, List, length, Option, Some}
use Rattle.std.proofs.Common.{arith, sym, ap, ◌∙◌, subst, inl, inr}
use Rattle.command_line.specs.declared.command.Command.{Command}
use Rattle.command_line.specs.CommandLine.{AsksFor}
use Rattle.frame_core.specs.declared.status.Status.TheVariants.{Done, Malformed, Limit, Memory, Refused}
use Rattle.frame_core.specs.Reported.{Refusal, memory_refusal}
use Rattle.frame_core.specs.Task.{Task, IsRefusalStatus, HasNoReport, IsBeyond, IsAnswerable}
use Rattle.frame_core.specs.Run.{Run, HasInput}
use Rattle.frame_core.specs.Promise.{OutputHeld, Stands, Replies, Faults, CommandPromise}
use Rattle.frame_core.specs.OutcomeLaws.{of_input}
use Rattle.frame_core.specs.ReadOffLaws.{gets, done_replies, limit_beyond, refused_faults, never_undecided}
use Rattle.cmd_lines.specs.Runs.{Runs}
use Rattle.depth_theory.specs.Verdicts.{most_of_certificate}
use Rattle.cmd_recheck.specs.Rechecks.{Rechecks}

-- The refusal of a fault has the status `Malformed` or `Refused`, or memory ran out.
abbrev pub IsFaultRefusal : Refusal → Type 0
IsFaultRefusal refusal = ((refusal.status ≡ Malformed) ⊎ (refusal.status ≡ Refused)) ⊎ (refusal ≡ memory_refusal)

-- Such a refusal is allowed in a task.
pub fault_status : (refusal : Refusal) → IsFaultRefusal refusal → IsRefusalStatus refusal.status ⊎ (refusal ≡ memory_refusal)
fault_status refusal (inl (inl malformed)) = inl (inl malformed)
fault_status refusal (inl (inr refused)) = inl (inr (inr refused))
fault_status refusal (inr memory) = inr memory

-- Its status is never `Limit`.
never_limit : (refusal : Refusal) → IsFaultRefusal refusal → refusal.status ≡ Limit → ⊥
never_limit refusal (inl (inl malformed)) is = let bad : Malformed ≡ Limit = sym malformed ∙ is in cc
never_limit refusal (inl (inr refused)) is = let bad : Refused ≡ Limit = sym refused ∙ is in cc
never_limit refusal (inr memory) is = let bad : Memory ≡ Limit = sym (ap (λ (r : Refusal). r.status) memory) ∙ is in cc

-- What the task has to fulfil: how much it reads; a verdict has the status 0 and no report; how faults are
-- refused; the text of a certificate has no fault, and no verdict but its own; and a verdict that was written is
-- true.
pub record IsRechecking {Cert : Type 0} (task : Task) (Spells : List ℕ → Cert → Type 0) (verdict : Cert → task.Answer) (HasReply : Run → List ℕ → Type 0) : Type 0 where
  pub reads : task.reads ≡ Some most_of_certificate
  pub done : (answer : task.Answer) → (task.reply answer).status ≡ Done
  pub faultless : HasNoReport task
  pub faults : (fault : task.Fault) → IsFaultRefusal (task.refusal fault)
  pub sound : (input : List ℕ) (b : Cert) (fault : task.Fault) → Spells input b → task.Meets input fault → ⊥
  pub only : (input : List ℕ) (b : Cert) (answer : task.Answer) → Spells input b → task.Has input answer → verdict b ≡ answer
  pub reports : (r : Run) (input : List ℕ) (answer : task.Answer) → task.Has input answer → Stands r (task.reply answer) → HasReply r input

-- longer than what is read
beyond : (reads : Option ℕ) (input : List ℕ) → reads ≡ Some most_of_certificate → IsBeyond reads input → most_of_certificate < length input
beyond reads input is long = subst (λ (most : Option ℕ). IsBeyond most input) is long

-- no longer, and without a fault
answerable : (task : Task) (input : List ℕ) → task.reads ≡ Some most_of_certificate → length input ≤ most_of_certificate → ((fault : task.Fault) → task.Meets input fault → ⊥) → IsAnswerable task input
answerable task input reads within sound = record {
  within = λ long. let far : most_of_certificate < length input = beyond task.reads input reads long in omega (arith, far, within);
  sound = sound;
}

-- Then the runs of the task keep the promise.
pub rechecks : {Cert : Type 0} (command : Command) (task : Task) (Spells : List ℕ → Cert → Type 0) (verdict : Cert →
    task.Answer) (HasReply : Run → List ℕ → Type 0) → IsRechecking task Spells verdict HasReply
    → (r : Run) → (AsksFor r.words command → CommandPromise task r) → Rechecks command task Spells verdict HasReply r
rechecks {Cert} command task Spells verdict HasReply is r keeps =
    let has : (input : List ℕ) → Runs command r input → HasInput task.reads r.source.bytes input
    = λ input run. subst (λ (most : Option ℕ). HasInput most r.source.bytes input) (sym is.reads) run.reported in
    let complete : (input : List ℕ) (b : Cert) → Runs command r input → length input ≤ most_of_certificate → Spells input b → OutputHeld r → Replies task r input
    = λ input b run within spells held. gets task r input is.faultless (keeps run.asks) (has input run) (answerable task input is.reads within (λ fault. is.sound input b fault spells)) held in
    let replies : (input : List ℕ) → Runs command r input → r.status ≡ Done → Replies task r input
    = λ input run done. done_replies task r input (keeps run.asks) (has input run) done in
    record {
      complete = complete;
      accepted = λ input b run within spells held.
          let got : Replies task r input = complete input b run within spells held in
          subst (λ (answer : task.Answer). Stands r (task.reply answer)) (sym (is.only input b got.answer spells got.has)) got.stands;
      accepted_only = replies;
      answers = λ input run done. let got : Replies task r input = replies input run done in is.reports r input got.answer got.has got.stands;
      refused = λ input fault run meets held. (keeps run.asks).refused input fault (has input run) meets held;
      refused_only = λ input run refused. of_input task r (Faults task r) input (refused_faults task r is.done (keeps run.asks) refused) (has input run);
      limit_only = λ input run limit. beyond task.reads input is.reads (limit_beyond task r input (λ fault. never_limit (task.refusal fault) (is.faults fault)) (keeps run.asks) (has input run) limit);
      decided = λ asks undecided. never_undecided task r is.done (keeps asks) undecided;
    }
