-- The task of `agree` is well formed, and its runs keep the promise of `agree`.
use Rattle.std.specs.Prelude.{◌≡◌, ℕ, ◌⊎◌, List, Option, Some, None}
use Rattle.std.proofs.Common.{ap, refl, inl, inr, arith, sym, ◌∙◌, subst}
use Rattle.tt_core.specs.declared.error.SpecError.TheVariants as tables
use Rattle.chain_core.specs.declared.error.ChainError.TheVariants as chains
use Rattle.cmd_agree.specs.declared.agree.AgreeAnswer.{AgreeAnswer}
use Rattle.cmd_agree.specs.declared.agree.AgreeAnswer.TheVariants.{Agrees, Differs}
use Rattle.cmd_agree.specs.declared.agree.AgreeError.{AgreeError}
use Rattle.cmd_agree.specs.declared.agree.AgreeError.TheVariants as errors
use Rattle.cmd_agree.specs.Agree.{AgreeInput, IsQuestion, HasFault, HasAnswer, IsAnswer}
use Rattle.cmd_lines.specs.TableLines.{most_of_tables, named_spec}
use Rattle.cmd_agree.specs.AgreeReport.{answer_status, error_status, agree_reply, named_chain, named_error, agree_refusal, agree_task, chain_status}
use Rattle.frame_core.specs.Reported.{memory_refusal}
use Rattle.frame_core.specs.Task.{IsAnswerStatus, IsRefusalStatus, IsTask, IsAnswerable}
use Rattle.frame_core.specs.TaskLaws.{at_once_task}
use Rattle.std.proofs.Math.Logic.{⊎_elim}
use Rattle.chain_theory.specs.Difference.{IsComparison}
use Rattle.chain_theory.specs.DifferenceLaws.{one_comparison}
use Rattle.chain_core.specs.declared.error.ChainError.{ChainError}
use Rattle.frame_core.specs.declared.status.Status.TheVariants.{Done, Undecided, Refused}
use Rattle.command_line.specs.declared.command.Command.TheVariants.{Agree}
use Rattle.command_line.specs.CommandLine.{AsksFor}
use Rattle.frame_core.specs.Run.{Run}
use Rattle.frame_core.specs.Promise.{OutputHeld, Stands, Replies, Faults, CommandPromise}
use Rattle.cmd_agree.specs.AgreePromise.{ReportsDifference, AgreePromise}
use Rattle.frame_core.specs.OutcomeLaws.{of_input}
use Rattle.frame_core.specs.ReadOffLaws.{gets}
use Rattle.cmd_lines.specs.TableLineLaws.{not_refused as tables_apart}

-- ---- `agree` is a command

-- bytes are the spelling of at most one question
pub one_question : (input : List ℕ) (p q : AgreeInput) → IsQuestion input p → IsQuestion input q → p ≡ q
one_question input p q is_p is_q = cc

-- bytes with a fault aren't the spelling of a question
pub no_question : {A : Type 0} (input : List ℕ) (question : AgreeInput) (error : AgreeError) → IsQuestion input question → HasFault input error → A
no_question input question error is bad = absurd cc

-- bytes have at most one fault
one_fault : (input : List ℕ) (d e : AgreeError) → HasFault input d → HasFault input e → d ≡ e
one_fault input d e is_d is_e = cc

answer_statuses : (a : AgreeAnswer) → IsAnswerStatus (answer_status a)
answer_statuses Agrees = inl refl
answer_statuses (Differs h t) = inr (inr refl)

-- an error has the status of a refusal, or memory ran out
IsStatus : AgreeError → Type 0
IsStatus e = IsRefusalStatus (error_status e) ⊎ (agree_refusal e ≡ memory_refusal)

statuses : (e : AgreeError) → IsStatus e
unfolding IsStatus named_error named_spec named_chain
statuses (errors.Tables (tables.BadHeader line)) = inl (inl refl)
statuses (errors.Tables (tables.BadRow line)) = inl (inl refl)
statuses (errors.Tables (tables.WrongLength line)) = inl (inl refl)
statuses (errors.Tables tables.TooManyInputs) = inl (inr (inl refl))
statuses (errors.Tables tables.TooManyOutputs) = inl (inr (inl refl))
statuses (errors.Tables tables.NoOutput) = inl (inl refl)
statuses (errors.Tables tables.Memory) = inr refl
statuses (errors.Chained (chains.BadStep line)) = inl (inl refl)
statuses (errors.Chained (chains.ForwardPlace line)) = inl (inl refl)
statuses (errors.Chained (chains.BadOut line)) = inl (inl refl)
statuses (errors.Chained (chains.TooManySteps line)) = inl (inr (inl refl))
statuses (errors.Chained (chains.BadCount line)) = inl (inl refl)
statuses (errors.Chained chains.Memory) = inr refl
statuses (errors.BadEnd line) = inl (inl refl)
statuses errors.Memory = inr refl

statuses_of : (e : AgreeError) → IsRefusalStatus (error_status e) ⊎ (agree_refusal e ≡ memory_refusal)
unfolding IsStatus
statuses_of e = statuses e

pub agree_is_task : IsTask agree_task
agree_is_task =
    at_once_task most_of_tables AgreeAnswer HasAnswer agree_reply AgreeError HasFault agree_refusal
    answer_statuses
    (λ bytes fault meets. statuses_of fault)
    (λ bytes answer error has fault. no_question bytes has.question error has.asked fault)
    (λ bytes a b x y. ap agree_refusal (one_fault bytes a b x y))
    (λ bytes answer has. has.asked.within)
    (λ bytes error fault. fault.within)

-- ---- a question has one answer

abbrev difference_of : AgreeAnswer → Option (ℕ × ℕ)
difference_of Agrees = None
difference_of (Differs output row) = Some (output, row)

comparison_of : (question : AgreeInput) (answer : AgreeAnswer) → IsAnswer question answer → IsComparison question.chain question.tables (difference_of answer)
comparison_of question Agrees is = is
comparison_of question (Differs output row) is = is

answer_from : (a b : AgreeAnswer) → difference_of a ≡ difference_of b → a ≡ b
answer_from Agrees Agrees e = refl
answer_from Agrees (Differs output row) e = absurd cc
answer_from (Differs output row) Agrees e = absurd cc
answer_from (Differs output row) (Differs output' row') e =
    let pair : (output, row) ≡ (output', row') = cc in
    ap (λ (p : ℕ × ℕ). Differs p.0 p.1) pair

one_answer : (question : AgreeInput) (a b : AgreeAnswer) → IsAnswer question a → IsAnswer question b → a ≡ b
one_answer question a b p q =
    answer_from a b (one_comparison question.chain question.tables (difference_of a) (difference_of b) (comparison_of question a p) (comparison_of question b q))

-- ---- what follows from the promise of every command

-- a question has no fault
answerable : (input : List ℕ) (question : AgreeInput) → IsQuestion input question → IsAnswerable agree_task input
answerable input question is = record {
  within = λ long. let within = is.within in omega arith;
  sound = λ error fault. no_question input question error is fault;
}

complete : (r : Run) (input : List ℕ) (question : AgreeInput) → CommandPromise agree_task r → r.source.bytes ≡ Some input → IsQuestion input question → OutputHeld r → Replies agree_task r input
complete r input question promise reported is held =
    gets agree_task r input (λ answer. refl) promise reported (answerable input question is) held

answers : (r : Run) (input : List ℕ) (question : AgreeInput) (answer : AgreeAnswer) → CommandPromise agree_task r →
    r.source.bytes ≡ Some input → IsQuestion input question → IsAnswer question answer → OutputHeld r →
    Stands r (agree_reply answer)
answers r input question answer promise reported is is_answer held =
    let got : Replies agree_task r input = complete r input question promise reported is held in
    let has : HasAnswer input got.answer = got.has in
    let found : IsAnswer question got.answer = subst (λ (q : AgreeInput). IsAnswer q got.answer) (one_question input has.question question has.asked is) has.is_answer in
    subst (λ (a : AgreeAnswer). Stands r (agree_reply a)) (one_answer question got.answer answer found is_answer) got.stands

-- ---- statuses

agrees_by : (r : Run) (input : List ℕ) (answer : AgreeAnswer) → HasAnswer input answer → answer_status answer ≡ Done →
    Stands r (agree_reply answer) → HasAnswer input Agrees × Stands r (agree_reply Agrees)
agrees_by r input Agrees has is stands = (has, stands)
agrees_by r input (Differs h t) has is stands = absurd cc

differs_by : (r : Run) (input : List ℕ) (answer : AgreeAnswer) → HasAnswer input answer → answer_status answer ≡ Refused → Stands r (agree_reply answer) → ReportsDifference r input
differs_by r input Agrees has is stands = absurd cc
differs_by r input (Differs h t) has is stands = record { output = h; row = t; has = has; stands = stands }

decided_by : (answer : AgreeAnswer) → answer_status answer ≡ Undecided → ⊥
decided_by Agrees is = cc
decided_by (Differs h t) is = cc

chains_apart : (e : ChainError) → chain_status e ≡ Refused → ⊥
chains_apart (chains.BadStep line) is = cc
chains_apart (chains.ForwardPlace line) is = cc
chains_apart (chains.BadOut line) is = cc
chains_apart (chains.TooManySteps line) is = cc
chains_apart (chains.BadCount line) is = cc
chains_apart chains.Memory is = cc

-- no error of `agree` has the status of a difference
not_refused : (error : AgreeError) → error_status error ≡ Refused → ⊥
not_refused (errors.Tables e) is = tables_apart e is
not_refused (errors.Chained e) is = chains_apart e is
not_refused (errors.BadEnd line) is = cc
not_refused errors.Memory is = cc

agrees_only : (r : Run) (input : List ℕ) → CommandPromise agree_task r → r.source.bytes ≡ Some input → r.status ≡ Done → HasAnswer input Agrees × Stands r (agree_reply Agrees)
agrees_only r input promise reported is =
    let got : Replies agree_task r input = of_input agree_task r (Replies agree_task r) input (promise.done_only is) reported in
    agrees_by r input got.answer got.has (sym got.stands.status_is ∙ is) got.stands

differs_only : (r : Run) (input : List ℕ) → CommandPromise agree_task r → r.source.bytes ≡ Some input → r.status ≡ Refused → ReportsDifference r input
differs_only r input promise reported is =
    ⊎_elim
    (λ (got : Replies agree_task r input). differs_by r input got.answer got.has (sym got.stands.status_is ∙ is) got.stands)
    (λ (none : Faults agree_task r input). absurd (not_refused none.fault (sym none.reported.status_is ∙ is)))
    (of_input agree_task r (λ bytes. Replies agree_task r bytes ⊎ Faults agree_task r bytes) input (promise.refused_only is) reported)

undecided : (r : Run) → CommandPromise agree_task r → r.status ≡ Undecided → ⊥
undecided r promise is =
    let got = promise.undecided_only is in
    decided_by got.holds.answer (sym got.holds.stands.status_is ∙ is)

-- The promise of `agree`.
pub agree_promised : (r : Run) → (AsksFor r.words Agree → CommandPromise agree_task r) → AgreePromise r
agree_promised r keeps = record {
  complete = λ input question run is held. complete r input question (keeps run.asks) run.reported is held;
  answers = λ input question answer run is is_answer held. answers r input question answer (keeps run.asks) run.reported is is_answer held;
  agrees_only = λ input run is. agrees_only r input (keeps run.asks) run.reported is;
  differs_only = λ input run is. differs_only r input (keeps run.asks) run.reported is;
  decided = λ asks is. undecided r (keeps asks) is;
  refused = λ input error run fault held. (keeps run.asks).refused input error run.reported fault held;
}
