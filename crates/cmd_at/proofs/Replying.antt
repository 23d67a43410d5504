-- The reply and the refusals of the command.
use Rattle.std.specs.Prelude.{◌≡◌, ℕ, ◌≤◌, Bool, List, length, true, false, codes}
use Rattle.std.proofs.lemmas.Grind.{common_steps}
use Rattle.net_theory.specs.Limits.{most_of_netlist}
use Rattle.format_names.specs.declared.formats.FormatPair.{FormatPair}
use Rattle.equiv_run.specs.declared.answer.CompareError.{CompareError}
use Rattle.equiv_run.specs.declared.answer.CompareError.TheVariants.{Memory}
use Rattle.equiv_run.specs.Two.{is_bare}
use Rattle.equiv_formats.specs.Comparison.{IsFormatsRefused}
use Rattle.equiv_formats.specs.ComparisonLaws.{formats_fault}
use Rattle.frame_core.specs.Reported.{Reply, Refusal}
use Rattle.frame_core.specs.Task.{HasReply, Refuses}
use Rattle.cmd_equiv.specs.EquivReport.{equiv_refusal}
use Rattle.cmd_equiv.specs.WithReport.{empty_refusal}
use Rattle.cmd_at.specs.AtReport.{IsValuesText, IsOtherCount, FirstEmpty, SecondEmpty, Faulty, OtherCount, at_reply, count_refusal, at_task}

pub writes : (p : FormatPair) (bits : List Bool) (first bytes text : List ℕ) (reply : Reply) →
    length bytes ≤ most_of_netlist → is_bare first ≡ false → is_bare bytes ≡ false →
    IsValuesText p bits first bytes text → reply ≡ at_reply text → HasReply (at_task p bits first) bytes reply
writes p bits first bytes text reply within one other answer is = record {
  answer = text;
  has = record { within = within; said = record { one = one; other = other }; answer = answer };
  is = is;
}

pub refuses_first : (p : FormatPair) (bits : List Bool) (first bytes : List ℕ) (refusal : Refusal) →
    length bytes ≤ most_of_netlist → is_bare first ≡ true → refusal ≡ empty_refusal (codes "First") →
    Refuses (at_task p bits first) bytes refusal
refuses_first p bits first bytes refusal within empty is = record {
  fault = FirstEmpty;
  meets = record { within = within; met = empty };
  is = is;
}

pub refuses_second : (p : FormatPair) (bits : List Bool) (first bytes : List ℕ) (refusal : Refusal) →
    length bytes ≤ most_of_netlist → is_bare first ≡ false → is_bare bytes ≡ true →
    refusal ≡ empty_refusal (codes "Second") → Refuses (at_task p bits first) bytes refusal
refuses_second p bits first bytes refusal within one empty is = record {
  fault = SecondEmpty;
  meets = record { within = within; met = record { one = one; other = empty } };
  is = is;
}

pub refuses_two : (p : FormatPair) (bits : List Bool) (first bytes : List ℕ) (e : CompareError) (refusal : Refusal) →
    length bytes ≤ most_of_netlist → is_bare first ≡ false → is_bare bytes ≡ false → (e ≡ Memory → ⊥) →
    IsFormatsRefused p first bytes e → refusal ≡ equiv_refusal e → Refuses (at_task p bits first) bytes refusal
refuses_two p bits first bytes e refusal within one other not refused is = record {
  fault = Faulty e;
  meets = record { within = within; met = record { said = record { one = one; other = other }; holds = formats_fault p first bytes e refused not } };
  is = is;
}

pub refuses_count : (p : FormatPair) (bits : List Bool) (first bytes : List ℕ) (count : ℕ) (refusal : Refusal) →
    length bytes ≤ most_of_netlist → is_bare first ≡ false → is_bare bytes ≡ false →
    IsOtherCount p bits first bytes count → refusal ≡ count_refusal count → Refuses (at_task p bits first) bytes refusal
refuses_count p bits first bytes count refusal within one other apart is = record {
  fault = OtherCount count;
  meets = record { within = within; met = record { said = record { one = one; other = other }; holds = apart } };
  is = is;
}

pub ruleset replying = (common_steps, writes, refuses_first, refuses_second, refuses_two, refuses_count)
