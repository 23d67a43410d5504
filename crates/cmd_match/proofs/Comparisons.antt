-- The result of comparing two texts.
use Rattle.std.specs.Prelude.{◌≡◌, ℕ, ◌≤◌, List, length, Option, Bool, true, false, codes, refl}
use Rattle.std.proofs.Common.{sym, subst}
use Rattle.std.proofs.lemmas.Grind.{common_steps}
use Rattle.net_theory.specs.Limits.{most_of_netlist}
use Rattle.format_names.specs.declared.formats.FormatPair.{FormatPair}
use Rattle.equiv_run.specs.declared.answer.EquivOutcome.{EquivOutcome}
use Rattle.equiv_run.specs.declared.answer.CompareError.{CompareError}
use Rattle.equiv_run.specs.declared.answer.CompareError.TheVariants.{Memory}
use Rattle.match_core.specs.declared.lacking.Lack.{Lack}
use Rattle.equiv_match.specs.declared.error.MatchError.{MatchError}
use Rattle.equiv_match.specs.declared.error.MatchError.TheVariants.{Refused, Lacks}
use Rattle.equiv_run.specs.Two.{is_bare}
use Rattle.equiv_formats.specs.Comparison.{first_format, SaysNoSink}
use Rattle.equiv_match.specs.MatchComparison.{IsMatchedAnswer, IsMatchRefused}
use Rattle.equiv_match.specs.MatchComparisonLaws.{matched_fault}
use Rattle.frame_core.specs.Reported.{Reply, Refusal}
use Rattle.frame_core.specs.Task.{HasReply, Refuses}
use Rattle.cmd_equiv.specs.WithReport.{empty_refusal}
use Rattle.cmd_formats.specs.FormatsReport.{named_reply}
use Rattle.cmd_match.specs.MatchReport.{FirstEmpty, SecondEmpty, Faulty, lack_refusal, pair_refusal, error_refusal, match_task}

pub compares : (p : FormatPair) (budget : ℕ) (first bytes text : List ℕ) (told : Option (List ℕ)) (outcome : EquivOutcome) (no_sink : Bool) (reply : Reply) →
    length bytes ≤ most_of_netlist → is_bare first ≡ false → is_bare bytes ≡ false →
    IsMatchedAnswer p budget first bytes text told outcome → SaysNoSink (first_format p) first no_sink →
    reply ≡ named_reply (record { compared = record { text = text; outcome = outcome }; told = told; no_sink = no_sink }) →
    HasReply (match_task p budget first) bytes reply
compares p budget first bytes text told outcome no_sink reply within one other answer says is = record {
  answer = record { compared = record { text = text; outcome = outcome }; told = told; no_sink = no_sink };
  has = record { within = within; said = record { one = one; other = other }; answer = answer; no_sink = says };
  is = is;
}

pub refuses_first : (p : FormatPair) (budget : ℕ) (first bytes : List ℕ) (refusal : Refusal) → length bytes ≤ most_of_netlist →
    is_bare first ≡ true → refusal ≡ empty_refusal (codes "First") → Refuses (match_task p budget first) bytes refusal
refuses_first p budget first bytes refusal within empty is = record {
  fault = FirstEmpty;
  meets = record { within = within; met = empty };
  is = is;
}

pub refuses_second : (p : FormatPair) (budget : ℕ) (first bytes : List ℕ) (refusal : Refusal) → length bytes ≤ most_of_netlist →
    is_bare first ≡ false → is_bare bytes ≡ true → refusal ≡ empty_refusal (codes "Second") →
    Refuses (match_task p budget first) bytes refusal
refuses_second p budget first bytes refusal within one empty is = record {
  fault = SecondEmpty;
  meets = record { within = within; met = record { one = one; other = empty } };
  is = is;
}

refuses_two : (p : FormatPair) (budget : ℕ) (first bytes : List ℕ) (e : MatchError) → length bytes ≤ most_of_netlist →
    is_bare first ≡ false → is_bare bytes ≡ false → (e ≡ Refused Memory → ⊥) → IsMatchRefused p first bytes e →
    Refuses (match_task p budget first) bytes (error_refusal e)
refuses_two p budget first bytes e within one other not refused = record {
  fault = Faulty e;
  meets = record { within = within; met = record { said = record { one = one; other = other }; fault = matched_fault p first bytes e refused not } };
  is = refl;
}

pub refuses_lacking : (p : FormatPair) (budget : ℕ) (first bytes : List ℕ) (e : MatchError) (lack : Lack) (refusal : Refusal) →
    length bytes ≤ most_of_netlist → is_bare first ≡ false → is_bare bytes ≡ false → IsMatchRefused p first bytes e →
    e ≡ Lacks lack → refusal ≡ lack_refusal lack → Refuses (match_task p budget first) bytes refusal
refuses_lacking p budget first bytes e lack refusal within one other refused is same =
    subst (λ (r : Refusal). Refuses (match_task p budget first) bytes r) (sym same)
    (refuses_two p budget first bytes (Lacks lack) within one other (λ x. cc) (subst (IsMatchRefused p first bytes) is refused))

pub refuses_pair : (p : FormatPair) (budget : ℕ) (first bytes : List ℕ) (e : MatchError) (fault : CompareError) (refusal : Refusal) →
    length bytes ≤ most_of_netlist → is_bare first ≡ false → is_bare bytes ≡ false → IsMatchRefused p first bytes e →
    e ≡ Refused fault → (fault ≡ Memory → ⊥) → refusal ≡ pair_refusal fault → Refuses (match_task p budget first) bytes refusal
refuses_pair p budget first bytes e fault refusal within one other refused is not same =
    subst (λ (r : Refusal). Refuses (match_task p budget first) bytes r) (sym same)
    (refuses_two p budget first bytes (Refused fault) within one other (λ x. not (let same_fault : fault ≡ Memory = cc in same_fault))
    (subst (IsMatchRefused p first bytes) is refused))

pub ruleset comparing = (common_steps, compares, refuses_first, refuses_second, refuses_lacking, refuses_pair)
