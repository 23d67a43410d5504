-- The replies and refusals of the two commands.
use Rattle.std.specs.Prelude.{◌≡◌, ℕ, ◌≤◌, List, length, true, false, codes}
use Rattle.std.proofs.lemmas.Grind.{common_steps}
use Rattle.equiv_run.specs.declared.answer.EquivOutcome.{EquivOutcome}
use Rattle.equiv_run.specs.declared.answer.CompareError.{CompareError}
use Rattle.equiv_run.specs.declared.answer.CompareError.TheVariants.{Memory}
use Rattle.equiv_run.specs.Two.{is_bare, IsTwoRefused}
use Rattle.equiv_run.specs.TwoLaws.{two_fault}
use Rattle.net_theory.specs.Limits.{most_of_netlist}
use Rattle.frame_core.specs.Reported.{Reply, Refusal}
use Rattle.frame_core.specs.Task.{HasReply, Refuses}
use Rattle.cmd_equiv.specs.EquivReport.{Comparison, equiv_reply, equiv_refusal}
use Rattle.cmd_equiv.specs.WithReport.{FirstEmpty, SecondEmpty, Faulty, empty_refusal}
use Rattle.cmd_miter.specs.MiterReport.{IsMiterText, IsLogText, IsMiterAnswer, IsLogAnswer, formula_reply, pair_task, miter_task, miter_log_task}

pub writes : (first bytes text : List ℕ) (reply : Reply) → length bytes ≤ most_of_netlist → is_bare first ≡ false →
    is_bare bytes ≡ false → IsMiterText first bytes text → reply ≡ formula_reply text →
    HasReply (miter_task first) bytes reply
writes first bytes text reply within one other answer is = record {
  answer = text;
  has = record { within = within; said = record { one = one; other = other }; answer = answer };
  is = is;
}

pub logs : (budget : ℕ) (first bytes text : List ℕ) (outcome : EquivOutcome) (reply : Reply) →
    length bytes ≤ most_of_netlist → is_bare first ≡ false → is_bare bytes ≡ false →
    IsLogText budget first bytes text outcome → reply ≡ equiv_reply (record { text = text; outcome = outcome }) →
    HasReply (miter_log_task budget first) bytes reply
logs budget first bytes text outcome reply within one other answer is = record {
  answer = record { text = text; outcome = outcome };
  has = record { within = within; said = record { one = one; other = other }; answer = answer };
  is = is;
}

-- ---- the refusals of either

refuses_first : (A : Type 0) (Is : List ℕ → List ℕ → A → Type 0) (replies : A → Reply) (first bytes : List ℕ)
    (refusal : Refusal) → length bytes ≤ most_of_netlist → is_bare first ≡ true →
    refusal ≡ empty_refusal (codes "First") → Refuses (pair_task A Is replies first) bytes refusal
refuses_first A Is replies first bytes refusal within empty is = record {
  fault = FirstEmpty;
  meets = record { within = within; met = empty };
  is = is;
}

refuses_second : (A : Type 0) (Is : List ℕ → List ℕ → A → Type 0) (replies : A → Reply) (first bytes : List ℕ)
    (refusal : Refusal) → length bytes ≤ most_of_netlist → is_bare first ≡ false → is_bare bytes ≡ true →
    refusal ≡ empty_refusal (codes "Second") → Refuses (pair_task A Is replies first) bytes refusal
refuses_second A Is replies first bytes refusal within one empty is = record {
  fault = SecondEmpty;
  meets = record { within = within; met = record { one = one; other = empty } };
  is = is;
}

refuses_two : (A : Type 0) (Is : List ℕ → List ℕ → A → Type 0) (replies : A → Reply) (first bytes : List ℕ)
    (e : CompareError) (refusal : Refusal) → length bytes ≤ most_of_netlist → is_bare first ≡ false →
    is_bare bytes ≡ false → (e ≡ Memory → ⊥) → IsTwoRefused first bytes e → refusal ≡ equiv_refusal e →
    Refuses (pair_task A Is replies first) bytes refusal
refuses_two A Is replies first bytes e refusal within one other not refused is = record {
  fault = Faulty e;
  meets = record { within = within; met = record { said = record { one = one; other = other }; fault = two_fault first bytes e refused not } };
  is = is;
}

pub miter_refuses_first : (first bytes : List ℕ) (refusal : Refusal) → length bytes ≤ most_of_netlist →
    is_bare first ≡ true → refusal ≡ empty_refusal (codes "First") → Refuses (miter_task first) bytes refusal
miter_refuses_first first bytes refusal within empty is =
    refuses_first (List ℕ) IsMiterAnswer formula_reply first bytes refusal within empty is

pub miter_refuses_second : (first bytes : List ℕ) (refusal : Refusal) → length bytes ≤ most_of_netlist →
    is_bare first ≡ false → is_bare bytes ≡ true → refusal ≡ empty_refusal (codes "Second") →
    Refuses (miter_task first) bytes refusal
miter_refuses_second first bytes refusal within one empty is =
    refuses_second (List ℕ) IsMiterAnswer formula_reply first bytes refusal within one empty is

pub miter_refuses_two : (first bytes : List ℕ) (e : CompareError) (refusal : Refusal) →
    length bytes ≤ most_of_netlist → is_bare first ≡ false → is_bare bytes ≡ false → (e ≡ Memory → ⊥) →
    IsTwoRefused first bytes e → refusal ≡ equiv_refusal e → Refuses (miter_task first) bytes refusal
miter_refuses_two first bytes e refusal within one other not refused is =
    refuses_two (List ℕ) IsMiterAnswer formula_reply first bytes e refusal within one other not refused is

pub log_refuses_first : (budget : ℕ) (first bytes : List ℕ) (refusal : Refusal) → length bytes ≤ most_of_netlist →
    is_bare first ≡ true → refusal ≡ empty_refusal (codes "First") → Refuses (miter_log_task budget first) bytes refusal
log_refuses_first budget first bytes refusal within empty is =
    refuses_first Comparison (IsLogAnswer budget) equiv_reply first bytes refusal within empty is

pub log_refuses_second : (budget : ℕ) (first bytes : List ℕ) (refusal : Refusal) → length bytes ≤ most_of_netlist →
    is_bare first ≡ false → is_bare bytes ≡ true → refusal ≡ empty_refusal (codes "Second") →
    Refuses (miter_log_task budget first) bytes refusal
log_refuses_second budget first bytes refusal within one empty is =
    refuses_second Comparison (IsLogAnswer budget) equiv_reply first bytes refusal within one empty is

pub log_refuses_two : (budget : ℕ) (first bytes : List ℕ) (e : CompareError) (refusal : Refusal) →
    length bytes ≤ most_of_netlist → is_bare first ≡ false → is_bare bytes ≡ false → (e ≡ Memory → ⊥) →
    IsTwoRefused first bytes e → refusal ≡ equiv_refusal e → Refuses (miter_log_task budget first) bytes refusal
log_refuses_two budget first bytes e refusal within one other not refused is =
    refuses_two Comparison (IsLogAnswer budget) equiv_reply first bytes e refusal within one other not refused is

pub ruleset writing = (common_steps, writes, miter_refuses_first, miter_refuses_second, miter_refuses_two)

pub ruleset logging = (common_steps, logs, log_refuses_first, log_refuses_second, log_refuses_two)
