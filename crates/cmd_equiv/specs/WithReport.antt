-- The task of comparing a netlist with a given one, each in a text of its own.
use Rattle.std.specs.Prelude.{◌≡◌, ℕ, ◌≤◌, List, ◌∷◌, [], length, Bool, true, false, Option, Some, None, codes}
use Rattle.equiv_run.specs.declared.answer.CompareError.{CompareError}
use Rattle.equiv_run.specs.Two.{is_bare, IsTwoAnswer, SaysNoSink, HasTwoFault}
use Rattle.net_theory.specs.Limits.{most_of_netlist}
use Rattle.frame_core.specs.declared.status.Status.TheVariants as statuses
use Rattle.frame_core.specs.Reported.{Word, Reply, Refusal}
use Rattle.frame_core.specs.Task.{Task, at_once}
use Rattle.cmd_equiv.specs.EquivReport.{standing_status, Comparison, equiv_refusal}

-- Why two texts can't be compared: the first says nothing; the second says nothing; a fault of one of them.
pub data WithFault : Type 0 where
  FirstEmpty : WithFault
  SecondEmpty : WithFault
  Faulty : (error : CompareError) → WithFault

-- Neither text is without a directive.
pub record AreSaid (first second : List ℕ) : Type 0 where
  pub one : is_bare first ≡ false
  pub other : is_bare second ≡ false

-- the comparison, and whether the netlists have neither an output nor a latch
pub record TwoComparison : Type 0 where
  pub compared : Comparison
  pub no_sink : Bool

-- The texts are two netlists with the same interface, and `text` reports and proves the result. The same interface has
-- the same outputs and latches, so that the first says whether there are any.
pub record IsTwoComparison (budget : ℕ) (first second : List ℕ) (c : TwoComparison) : Type 0 where
  pub within : length second ≤ most_of_netlist
  pub said : AreSaid first second
  pub answer : IsTwoAnswer budget first second c.compared.text c.compared.outcome
  pub no_sink : SaysNoSink first c.no_sink

-- The report: one line where nothing was compared, or none.
unfoldable pub no_sink_line : List ℕ
no_sink_line = codes "note: neither netlist has an output or latch: nothing was compared\n"

abbrev pub with_report : Bool → Option (List ℕ)
with_report true = Some no_sink_line
with_report false = None

abbrev pub with_reply : TwoComparison → Reply
with_reply c = record {
  text = c.compared.text;
  report = with_report c.no_sink;
  status = standing_status c.compared.outcome;
}

-- An empty text is reported before any other fault.
pub record IsSecondEmpty (first second : List ℕ) : Type 0 where
  pub one : is_bare first ≡ false
  pub other : is_bare second ≡ true

pub record IsFaulty (first second : List ℕ) (error : CompareError) : Type 0 where
  pub said : AreSaid first second
  pub fault : HasTwoFault first second error

abbrev pub HasWithFault : List ℕ → List ℕ → WithFault → Type 0
HasWithFault first second FirstEmpty = is_bare first ≡ true
HasWithFault first second SecondEmpty = IsSecondEmpty first second
HasWithFault first second (Faulty error) = IsFaulty first second error

pub record MeetsWithFault (first second : List ℕ) (fault : WithFault) : Type 0 where
  pub within : length second ≤ most_of_netlist
  pub met : HasWithFault first second fault

-- Examples: `First Empty`, `Second Empty`, `First NotSupported 6 .model`
unfoldable pub empty_refusal : List ℕ → Refusal
empty_refusal netlist = record { status = statuses.Malformed; named = Word netlist ∷ Word (codes "Empty") ∷ [] }

abbrev pub with_refusal : WithFault → Refusal
with_refusal FirstEmpty = empty_refusal (codes "First")
with_refusal SecondEmpty = empty_refusal (codes "Second")
with_refusal (Faulty error) = equiv_refusal error

-- The bytes of the task's source are the second text.
abbrev pub with_task : ℕ → List ℕ → Task
with_task budget first = at_once most_of_netlist TwoComparison (IsTwoComparison budget first) with_reply WithFault
    (MeetsWithFault first) with_refusal
