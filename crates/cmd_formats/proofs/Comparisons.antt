-- The result of comparing two texts.
use Rattle.std.specs.Prelude.{◌≡◌, ℕ, ◌≤◌, List, length, Option, Bool, true, false, codes}
use Rattle.std.proofs.lemmas.Grind.{common_steps}
use Rattle.net_theory.specs.Limits.{most_of_netlist}
use Rattle.format_names.specs.declared.formats.FormatPair.{FormatPair}
use Rattle.equiv_run.specs.declared.answer.EquivOutcome.{EquivOutcome}
use Rattle.equiv_run.specs.declared.answer.CompareError.{CompareError}
use Rattle.equiv_run.specs.declared.answer.CompareError.TheVariants.{Memory}
use Rattle.equiv_run.specs.Two.{is_bare}
use Rattle.equiv_formats.specs.Comparison.{first_format, IsFormatsAnswer, SaysNoSink, IsFormatsRefused}
use Rattle.equiv_formats.specs.ComparisonLaws.{formats_fault}
use Rattle.frame_core.specs.Reported.{Reply, Refusal}
use Rattle.frame_core.specs.Task.{HasReply, Refuses}
use Rattle.cmd_equiv.specs.EquivReport.{equiv_refusal}
use Rattle.cmd_equiv.specs.WithReport.{FirstEmpty, SecondEmpty, Faulty, empty_refusal}
use Rattle.cmd_formats.specs.FormatsReport.{named_reply, formats_task}

pub compares : (p : FormatPair) (budget : ℕ) (first bytes text : List ℕ) (told : Option (List ℕ)) (outcome : EquivOutcome) (no_sink : Bool) (reply : Reply) →
    length bytes ≤ most_of_netlist → is_bare first ≡ false → is_bare bytes ≡ false →
    IsFormatsAnswer p budget first bytes text told outcome → SaysNoSink (first_format p) first no_sink →
    reply ≡ named_reply (record { compared = record { text = text; outcome = outcome }; told = told; no_sink = no_sink }) →
    HasReply (formats_task p budget first) bytes reply
compares p budget first bytes text told outcome no_sink reply within one other answer says is = record {
  answer = record { compared = record { text = text; outcome = outcome }; told = told; no_sink = no_sink };
  has = record { within = within; said = record { one = one; other = other }; answer = answer; no_sink = says };
  is = is;
}

pub refuses_first : (p : FormatPair) (budget : ℕ) (first bytes : List ℕ) (refusal : Refusal) → length bytes ≤ most_of_netlist →
    is_bare first ≡ true → refusal ≡ empty_refusal (codes "First") → Refuses (formats_task p budget first) bytes refusal
refuses_first p budget first bytes refusal within empty is = record {
  fault = FirstEmpty;
  meets = record { within = within; met = empty };
  is = is;
}

pub refuses_second : (p : FormatPair) (budget : ℕ) (first bytes : List ℕ) (refusal : Refusal) → length bytes ≤ most_of_netlist →
    is_bare first ≡ false → is_bare bytes ≡ true → refusal ≡ empty_refusal (codes "Second") →
    Refuses (formats_task p budget first) bytes refusal
refuses_second p budget first bytes refusal within one empty is = record {
  fault = SecondEmpty;
  meets = record { within = within; met = record { one = one; other = empty } };
  is = is;
}

pub refuses_two : (p : FormatPair) (budget : ℕ) (first bytes : List ℕ) (e : CompareError) (refusal : Refusal) →
    length bytes ≤ most_of_netlist → is_bare first ≡ false → is_bare bytes ≡ false → (e ≡ Memory → ⊥) →
    IsFormatsRefused p first bytes e → refusal ≡ equiv_refusal e → Refuses (formats_task p budget first) bytes refusal
refuses_two p budget first bytes e refusal within one other not refused is = record {
  fault = Faulty e;
  meets = record { within = within; met = record { said = record { one = one; other = other }; fault = formats_fault p first bytes e refused not } };
  is = is;
}

pub ruleset comparing = (common_steps, compares, refuses_first, refuses_second, refuses_two)
