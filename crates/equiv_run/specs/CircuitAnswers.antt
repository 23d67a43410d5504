-- The answers for two circuits, before they are carried over to the texts that these were read from.
use Rattle.std.specs.Prelude.{◌≡◌, ℕ, ◌*◌, ◌^◌, ◌≤◌, ◌<◌, Bool, List}
use Rattle.std.proofs.Common.{arith}
use Rattle.sat_theory.specs.Line.{Line}
use Rattle.sat_theory.specs.Log.{Refutes, ReachesBudget, KeepsHalf, BoundsLiveAdditions}
use Rattle.net_theory.specs.Circuit.{Circuit}
use Rattle.net_document.specs.Equivalence.{AreEquivalentCircuits}
use Rattle.net_document.specs.Format.{HasNetFault}
use Rattle.blif_core.specs.Blif.{blif_format}
use Rattle.equiv_theory.specs.Miter.{variables, miter}
use Rattle.equiv_theory.specs.Counterexample.{HaveSameInterface, IsCounterexample}
use Rattle.equiv_core.specs.Limits.{IsWithinBudget}
use Rattle.equiv_run.specs.declared.answer.EquivOutcome.{EquivOutcome}
use Rattle.equiv_run.specs.declared.answer.EquivOutcome.TheVariants.{Equal, Differ, Undecided}
use Rattle.equiv_run.specs.declared.answer.CompareError.{CompareError}
use Rattle.equiv_run.specs.declared.answer.CompareError.TheVariants.{NoSecond, First, Second, DifferentInterface, Memory}
use Rattle.equiv_run.specs.Texts.{equal_text, undecided_text, differ_text}

pub record AreEqual (budget : ℕ) (c k : Circuit) (text : List ℕ) : Type 0 where
  pub interface : HaveSameInterface c k
  pub equivalent : AreEquivalentCircuits c k
  pub lines : List Line
  pub refutes : Refutes (miter c.net k.net) lines
  pub live_bounded : BoundsLiveAdditions (miter c.net k.net) lines
  pub within_budget : IsWithinBudget budget (miter c.net k.net) lines
  pub text_is : text ≡ equal_text lines

pub record AreDifferent (c k : Circuit) (text : List ℕ) : Type 0 where
  pub interface : HaveSameInterface c k
  pub sink : ℕ
  pub bits : List Bool
  pub differ : IsCounterexample c.net k.net sink bits
  pub text_is : text ≡ differ_text c.outputs c.latches sink bits

pub record AreUndecided (budget : ℕ) (c k : Circuit) (text : List ℕ) : Type 0 where
  pub interface : HaveSameInterface c k
  pub lines : List Line
  pub spent : ReachesBudget (miter c.net k.net) lines budget
  pub kept : KeepsHalf (miter c.net k.net) lines
  pub live_bounded : BoundsLiveAdditions (miter c.net k.net) lines
  pub within_budget : IsWithinBudget budget (miter c.net k.net) lines
  pub small : budget < 2 * 3 ^ variables c.net k.net
  pub text_is : text ≡ undecided_text lines

abbrev pub IsCircuitAnswer : ℕ → Circuit → Circuit → List ℕ → EquivOutcome → Type 0
IsCircuitAnswer budget c k text Equal = AreEqual budget c k text
IsCircuitAnswer budget c k text Differ = AreDifferent c k text
IsCircuitAnswer budget c k text Undecided = AreUndecided budget c k text

-- why two circuits weren't compared
abbrev pub IsOther : Circuit → Circuit → CompareError → Type 0
IsOther c k DifferentInterface = HaveSameInterface c k → ⊥
IsOther c k Memory = Unit {0}
IsOther c k NoSecond = ⊥
IsOther c k (First e) = ⊥
IsOther c k (Second e) = ⊥

-- why the first netlist is refused, and the second
abbrev pub IsFirstRefused : List ℕ → CompareError → Type 0
IsFirstRefused bytes (First e) = HasNetFault blif_format bytes e
IsFirstRefused bytes Memory = Unit {0}
IsFirstRefused bytes NoSecond = ⊥
IsFirstRefused bytes (Second e) = ⊥
IsFirstRefused bytes DifferentInterface = ⊥

abbrev pub IsSecondRefused : List ℕ → CompareError → Type 0
IsSecondRefused bytes (Second e) = HasNetFault blif_format bytes e
IsSecondRefused bytes Memory = Unit {0}
IsSecondRefused bytes NoSecond = ⊥
IsSecondRefused bytes (First e) = ⊥
IsSecondRefused bytes DifferentInterface = ⊥

-- ---- each of the three

more : (n budget : ℕ) → (n ≤ budget → ⊥) → budget < n
more n budget not = omega (arith, not)

pub answer_equal : (budget : ℕ) (c k : Circuit) (lines : List Line) (text : List ℕ) → HaveSameInterface c k →
    AreEquivalentCircuits c k → Refutes (miter c.net k.net) lines → BoundsLiveAdditions (miter c.net k.net) lines →
    IsWithinBudget budget (miter c.net k.net) lines → text ≡ equal_text lines → IsCircuitAnswer budget c k text Equal
answer_equal budget c k lines text interface equivalent refutes live_bounded within is =
    record {
      interface = interface;
      equivalent = equivalent;
      lines = lines;
      refutes = refutes;
      live_bounded = live_bounded;
      within_budget = within;
      text_is = is;
    }

pub answer_differ : (budget : ℕ) (c k : Circuit) (sink : ℕ) (bits : List Bool) (text : List ℕ) →
    HaveSameInterface c k → IsCounterexample c.net k.net sink bits → text ≡ differ_text c.outputs c.latches sink bits →
    IsCircuitAnswer budget c k text Differ
answer_differ budget c k sink bits text interface differ is = record { interface = interface; sink = sink; bits = bits; differ = differ; text_is = is }

pub answer_undecided : (budget : ℕ) (c k : Circuit) (lines : List Line) (text : List ℕ) → HaveSameInterface c k →
    ReachesBudget (miter c.net k.net) lines budget → KeepsHalf (miter c.net k.net) lines →
    BoundsLiveAdditions (miter c.net k.net) lines → IsWithinBudget budget (miter c.net k.net) lines →
    (2 * 3 ^ variables c.net k.net ≤ budget → ⊥) → text ≡ undecided_text lines →
    IsCircuitAnswer budget c k text Undecided
answer_undecided budget c k lines text interface spent kept live_bounded within not is =
    record {
      interface = interface;
      lines = lines;
      spent = spent;
      kept = kept;
      live_bounded = live_bounded;
      within_budget = within;
      small = more (2 * 3 ^ variables c.net k.net) budget not;
      text_is = is;
    }
