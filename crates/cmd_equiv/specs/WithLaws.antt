-- The task of comparing two texts is well formed.
use Rattle.std.specs.Prelude.{◌≡◌, ℕ, List, Bool, true, false}
use Rattle.std.proofs.Common.{sym, ◌∙◌, ap, refl, inl, inr}
use Rattle.equiv_run.specs.declared.answer.EquivOutcome.{EquivOutcome}
use Rattle.equiv_run.specs.declared.answer.EquivOutcome.TheVariants as standings
use Rattle.equiv_run.specs.declared.answer.CompareError.{CompareError}
use Rattle.equiv_run.specs.declared.answer.CompareError.TheVariants.{NoSecond, First, Second, DifferentInterface, Memory}
use Rattle.equiv_run.specs.Two.{is_bare, HasTwoFault}
use Rattle.equiv_run.specs.TwoLaws.{two_apart, two_one}
use Rattle.net_theory.specs.Limits.{most_of_netlist}
use Rattle.frame_core.specs.Task.{IsAnswerStatus, IsRefusalStatus, IsTask}
use Rattle.frame_core.specs.TaskLaws.{at_once_task}
use Rattle.cmd_lines.specs.NetLineLaws.{status_kind}
use Rattle.cmd_equiv.specs.EquivReport.{standing_status, pair_status, equiv_refusal}
use Rattle.cmd_equiv.specs.WithReport.{WithFault, FirstEmpty, SecondEmpty, Faulty, TwoComparison, IsTwoComparison, HasWithFault, MeetsWithFault, empty_refusal, with_reply, with_refusal, with_task}

answer_statuses : (s : EquivOutcome) → IsAnswerStatus (standing_status s)
answer_statuses standings.Equal = inl refl
answer_statuses standings.Undecided = inr (inl refl)
answer_statuses standings.Differ = inr (inr refl)

fault_statuses : (first second : List ℕ) (e : CompareError) → HasTwoFault first second e → IsRefusalStatus (pair_status e)
fault_statuses first second NoSecond fault = absurd fault
fault_statuses first second (First e) fault = status_kind e fault.1
fault_statuses first second (Second e) fault = status_kind e fault.fault.1
fault_statuses first second DifferentInterface fault = inr (inr refl)
fault_statuses first second Memory fault = absurd fault

refusal_statuses : (first second : List ℕ) (fault : WithFault) → HasWithFault first second fault → IsRefusalStatus (with_refusal fault).status
unfolding empty_refusal
refusal_statuses first second FirstEmpty meets = inl refl
refusal_statuses first second SecondEmpty meets = inl refl
refusal_statuses first second (Faulty e) meets = fault_statuses first second e meets.fault

both : {A : Type 0} (b : Bool) → b ≡ true → b ≡ false → A
both b is isnt = let e : true ≡ false = sym is ∙ isnt in cc

apart : (budget : ℕ) (first second : List ℕ) (c : TwoComparison) (fault : WithFault) → IsTwoComparison budget first second c → HasWithFault first second fault → ⊥
apart budget first second c FirstEmpty is meets = both (is_bare first) meets is.said.one
apart budget first second c SecondEmpty is meets = both (is_bare second) meets.other is.said.other
apart budget first second c (Faulty e) is meets = two_apart budget first second c.compared.text c.compared.outcome e is.answer meets.fault

one : (first second : List ℕ) (a b : WithFault) → HasWithFault first second a → HasWithFault first second b → with_refusal a ≡ with_refusal b
one first second FirstEmpty FirstEmpty x y = refl
one first second FirstEmpty SecondEmpty x y = both (is_bare first) x y.one
one first second FirstEmpty (Faulty e) x y = both (is_bare first) x y.said.one
one first second SecondEmpty FirstEmpty x y = both (is_bare first) y x.one
one first second SecondEmpty SecondEmpty x y = refl
one first second SecondEmpty (Faulty e) x y = both (is_bare second) x.other y.said.other
one first second (Faulty e) FirstEmpty x y = both (is_bare first) y x.said.one
one first second (Faulty e) SecondEmpty x y = both (is_bare second) y.other x.said.other
one first second (Faulty e) (Faulty f) x y = ap equiv_refusal (two_one first second e f x.fault y.fault)

pub with_is_task : (budget : ℕ) (first : List ℕ) → IsTask (with_task budget first)
with_is_task budget first =
    at_once_task most_of_netlist TwoComparison (IsTwoComparison budget first) with_reply WithFault (MeetsWithFault first) with_refusal
    (λ c. answer_statuses c.compared.outcome)
    (λ bytes fault meets. inl (refusal_statuses first bytes fault meets.met))
    (λ bytes c fault has meets. apart budget first bytes c fault has meets.met)
    (λ bytes a b x y. one first bytes a b x.met y.met)
    (λ bytes c has. has.within)
    (λ bytes fault meets. meets.within)
