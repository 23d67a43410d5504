-- The two tasks of a miter are well formed.
use Rattle.std.specs.Prelude.{◌≡◌, ℕ, List, true, false, Bool}
use Rattle.std.proofs.Common.{sym, ◌∙◌, refl, inl, inr}
use Rattle.net_theory.specs.Net.{Net}
use Rattle.net_theory.specs.Limits.{most_of_netlist}
use Rattle.equiv_run.specs.Two.{is_bare}
use Rattle.equiv_run.specs.TwoLaws.{two_sound}
use Rattle.equiv_run.specs.declared.answer.EquivOutcome.{EquivOutcome}
use Rattle.equiv_run.specs.declared.answer.EquivOutcome.TheVariants as standings
use Rattle.frame_core.specs.Task.{IsTask, IsAnswerStatus}
use Rattle.frame_core.specs.TaskLaws.{at_once_task}
use Rattle.cmd_equiv.specs.EquivReport.{Comparison, equiv_reply, standing_status}
use Rattle.cmd_equiv.specs.WithReport.{WithFault, FirstEmpty, SecondEmpty, Faulty, AreSaid, HasWithFault, MeetsWithFault, with_refusal}
use Rattle.cmd_equiv.specs.WithLaws.{with_is_task}
use Rattle.cmd_miter.specs.MiterReport.{HaveNets, IsMiterAnswer, IsLogAnswer, formula_reply, miter_task, miter_log_task}

answer_statuses : (s : EquivOutcome) → IsAnswerStatus (standing_status s)
answer_statuses standings.Equal = inl refl
answer_statuses standings.Undecided = inr (inl refl)
answer_statuses standings.Differ = inr (inr refl)

both : (b : Bool) → b ≡ true → b ≡ false → ⊥
both b is isnt = let e : true ≡ false = sym is ∙ isnt in cc

-- texts with nets have no fault
apart : (first second : List ℕ) (n m : Net) (fault : WithFault) → AreSaid first second → HaveNets first second n m →
    HasWithFault first second fault → ⊥
apart first second n m FirstEmpty said have meets = both (is_bare first) meets said.one
apart first second n m SecondEmpty said have meets = both (is_bare second) meets.other said.other
apart first second n m (Faulty e) said have meets =
    two_sound first second have.one have.other e have.first_is have.second_is have.interface meets.fault

pub miter_is_task : (first : List ℕ) → IsTask (miter_task first)
miter_is_task first =
    at_once_task most_of_netlist (List ℕ) (IsMiterAnswer first) formula_reply WithFault (MeetsWithFault first) with_refusal
    (λ text. inl refl)
    (λ bytes fault meets. (with_is_task 1 first).refusals bytes fault meets)
    (λ bytes text fault has meets. apart first bytes has.answer.n has.answer.m fault has.said has.answer.have meets.met)
    (λ bytes a b x y. (with_is_task 1 first).one bytes a b x y)
    (λ bytes text has. has.within)
    (λ bytes fault meets. meets.within)

pub miter_log_is_task : (budget : ℕ) (first : List ℕ) → IsTask (miter_log_task budget first)
miter_log_is_task budget first =
    at_once_task most_of_netlist Comparison (IsLogAnswer budget first) equiv_reply WithFault (MeetsWithFault first) with_refusal
    (λ c. answer_statuses c.outcome)
    (λ bytes fault meets. (with_is_task budget first).refusals bytes fault meets)
    (λ bytes c fault has meets. apart first bytes has.answer.n has.answer.m fault has.said has.answer.have meets.met)
    (λ bytes a b x y. (with_is_task budget first).one bytes a b x y)
    (λ bytes c has. has.within)
    (λ bytes fault meets. meets.within)
