-- The result of `equiv` for an input.
use Rattle.std.specs.Prelude.{◌≡◌, ℕ, ◌≤◌, List, length}
use Rattle.std.proofs.lemmas.Grind.{common_steps}
use Rattle.equiv_run.specs.declared.answer.EquivOutcome.{EquivOutcome}
use Rattle.equiv_run.specs.declared.answer.CompareError.{CompareError}
use Rattle.equiv_run.specs.declared.answer.CompareError.TheVariants.{Memory}
use Rattle.equiv_run.specs.Pairs.{IsAnswer, IsRefusedPair}
use Rattle.net_theory.specs.Limits.{most_of_two}
use Rattle.equiv_run.specs.PairLaws.{refused_fault}
use Rattle.frame_core.specs.Reported.{Reply, Refusal}
use Rattle.frame_core.specs.Task.{HasReply, Refuses}
use Rattle.cmd_equiv.specs.EquivReport.{equiv_reply, equiv_refusal, equiv_task}

-- ---- its answers

pub reports : (budget : ℕ) (bytes text : List ℕ) (outcome : EquivOutcome) (reply : Reply) →
    length bytes ≤ most_of_two → IsAnswer budget bytes text outcome →
    reply ≡ equiv_reply (record { text = text; outcome = outcome }) → HasReply (equiv_task budget) bytes reply
reports budget bytes text outcome reply within answer is = record {
  answer = record { text = text; outcome = outcome };
  has = record { within = within; answer = answer };
  is = is;
}

pub refuses : (budget : ℕ) (bytes : List ℕ) (e : CompareError) (refusal : Refusal) → length bytes ≤ most_of_two →
    (e ≡ Memory → ⊥) → IsRefusedPair bytes e → refusal ≡ equiv_refusal e → Refuses (equiv_task budget) bytes refusal
refuses budget bytes e refusal within other refused is = record {
  fault = e;
  meets = record { within = within; fault = refused_fault bytes e refused other };
  is = is;
}

pub ruleset reporting = (common_steps, reports, refuses)
