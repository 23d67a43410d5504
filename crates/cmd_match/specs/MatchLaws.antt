-- The task of comparing two texts by names is well formed.
use Rattle.std.specs.Prelude.{◌≡◌, ℕ, List, Bool, true, false}
use Rattle.std.proofs.Common.{sym, ◌∙◌, ap, refl, inl, inr}
use Rattle.net_theory.specs.Limits.{most_of_netlist}
use Rattle.format_names.specs.declared.formats.FormatPair.{FormatPair}
use Rattle.equiv_run.specs.declared.answer.EquivOutcome.{EquivOutcome}
use Rattle.equiv_run.specs.declared.answer.EquivOutcome.TheVariants as standings
use Rattle.equiv_run.specs.declared.answer.CompareError.TheVariants.{NoSecond, First, Second, DifferentInterface, Memory}
use Rattle.equiv_run.specs.Two.{is_bare}
use Rattle.equiv_match.specs.declared.error.MatchError.{MatchError}
use Rattle.equiv_match.specs.declared.error.MatchError.TheVariants.{Refused, Lacks}
use Rattle.equiv_match.specs.MatchComparison.{HasMatchFault}
use Rattle.equiv_match.specs.MatchComparisonLaws.{matched_apart, matched_one}
use Rattle.frame_core.specs.Task.{IsAnswerStatus, IsRefusalStatus, IsTask}
use Rattle.frame_core.specs.TaskLaws.{at_once_task}
use Rattle.cmd_lines.specs.NetLineLaws.{status_kind}
use Rattle.cmd_equiv.specs.EquivReport.{standing_status}
use Rattle.cmd_equiv.specs.WithReport.{empty_refusal}
use Rattle.cmd_formats.specs.FormatsReport.{NamedComparison, named_reply}
use Rattle.cmd_match.specs.MatchReport.{MatchFault, FirstEmpty, SecondEmpty, Faulty, IsMatchComparison, HasFault, MeetsMatchFault, lack_refusal, latches_refusal, error_refusal, match_refusal, match_task}

answer_statuses : (s : EquivOutcome) → IsAnswerStatus (standing_status s)
answer_statuses standings.Equal = inl refl
answer_statuses standings.Undecided = inr (inl refl)
answer_statuses standings.Differ = inr (inr refl)

fault_statuses : (p : FormatPair) (first second : List ℕ) (e : MatchError) → HasMatchFault p first second e → IsRefusalStatus (error_refusal e).status
unfolding lack_refusal latches_refusal
fault_statuses p first second (Refused NoSecond) fault = absurd fault
fault_statuses p first second (Refused (First e)) fault = status_kind e fault.1
fault_statuses p first second (Refused (Second e)) fault = status_kind e fault.fault.1
fault_statuses p first second (Refused DifferentInterface) fault = inr (inr refl)
fault_statuses p first second (Refused Memory) fault = absurd fault
fault_statuses p first second (Lacks lack) fault = inr (inr refl)

refusal_statuses : (p : FormatPair) (first second : List ℕ) (fault : MatchFault) →
    HasFault p first second fault → IsRefusalStatus (match_refusal fault).status
unfolding empty_refusal
refusal_statuses p first second FirstEmpty meets = inl refl
refusal_statuses p first second SecondEmpty meets = inl refl
refusal_statuses p first second (Faulty e) meets = fault_statuses p first second e meets.fault

both : {A : Type 0} (b : Bool) → b ≡ true → b ≡ false → A
both b is isnt = let e : true ≡ false = sym is ∙ isnt in cc

apart : (p : FormatPair) (budget : ℕ) (first second : List ℕ) (c : NamedComparison) (fault : MatchFault) →
    IsMatchComparison p budget first second c → HasFault p first second fault → ⊥
apart p budget first second c FirstEmpty is meets = both (is_bare first) meets is.said.one
apart p budget first second c SecondEmpty is meets = both (is_bare second) meets.other is.said.other
apart p budget first second c (Faulty e) is meets =
    matched_apart p budget first second c.compared.text c.told c.compared.outcome e is.answer meets.fault

one : (p : FormatPair) (first second : List ℕ) (a b : MatchFault) →
    HasFault p first second a → HasFault p first second b → match_refusal a ≡ match_refusal b
one p first second FirstEmpty FirstEmpty x y = refl
one p first second FirstEmpty SecondEmpty x y = both (is_bare first) x y.one
one p first second FirstEmpty (Faulty e) x y = both (is_bare first) x y.said.one
one p first second SecondEmpty FirstEmpty x y = both (is_bare first) y x.one
one p first second SecondEmpty SecondEmpty x y = refl
one p first second SecondEmpty (Faulty e) x y = both (is_bare second) x.other y.said.other
one p first second (Faulty e) FirstEmpty x y = both (is_bare first) y x.said.one
one p first second (Faulty e) SecondEmpty x y = both (is_bare second) y.other x.said.other
one p first second (Faulty e) (Faulty f) x y = ap error_refusal (matched_one p first second e f x.fault y.fault)

pub match_is_task : (p : FormatPair) (budget : ℕ) (first : List ℕ) → IsTask (match_task p budget first)
match_is_task p budget first =
    at_once_task most_of_netlist NamedComparison (IsMatchComparison p budget first) named_reply MatchFault (MeetsMatchFault p first) match_refusal
    (λ c. answer_statuses c.compared.outcome)
    (λ bytes fault meets. inl (refusal_statuses p first bytes fault meets.met))
    (λ bytes c fault has meets. apart p budget first bytes c fault has meets.met)
    (λ bytes a b x y. one p first bytes a b x.met y.met)
    (λ bytes c has. has.within)
    (λ bytes fault meets. meets.within)
