-- The answer of a comparison, and what is told of a difference by names.
use Rattle.std.specs.Prelude.{◌≡◌, ℕ, ◌-◌, ◌++◌, Bool, List, map, Option, Some, None, codes}
use Rattle.net_theory.specs.Document.{Name, Latch, Document, latches_of, source_names}
use Rattle.net_theory.specs.Behaviour.{IsValuationOf}
use Rattle.net_theory.specs.Net.{bit_of}
use Rattle.net_theory.specs.Circuit.{Circuit, sources_of}
use Rattle.equiv_theory.specs.Counterexample.{HaveSameInterface, IsCounterexample, sink_bit}
use Rattle.equiv_run.specs.declared.answer.EquivOutcome.{EquivOutcome}
use Rattle.equiv_run.specs.declared.answer.EquivOutcome.TheVariants.{Equal, Differ, Undecided}
use Rattle.equiv_run.specs.Texts.{differ_text}
use Rattle.equiv_run.specs.CircuitAnswers.{AreEqual, AreUndecided}
use Rattle.equiv_run.specs.Pairs.{sink_in, DocumentsDiffer, IsEqualAnswer, IsUndecidedAnswer}
use Rattle.equiv_values.specs.Lines.{source_lines, sink_line}

-- ---- texts

-- The sink that differs with its two values, and the bit of each source. Example: the lines `differ output y: 0 and 1`,
-- `a=1` and `b=0`.
unfoldable pub named_text : List Name → List Name → List Latch → ℕ → List Bool → Bool → Bool → List ℕ
named_text sources outputs latches sink bits one other =
    codes "differ " ++ (sink_line outputs latches sink one other ++ source_lines sources bits)

-- ---- two circuits

-- They differ under the values in the text, at the sink in the text and at none before it, and the values there are told.
pub record AreNamedDifferent (c k : Circuit) (text : List ℕ) (told : Option (List ℕ)) : Type 0 where
  pub interface : HaveSameInterface c k
  pub sink : ℕ
  pub bits : List Bool
  pub differ : IsCounterexample c.net k.net sink bits
  pub text_is : text ≡ differ_text c.outputs c.latches sink bits
  pub told_is : told ≡ Some (named_text (sources_of c) c.outputs c.latches sink bits
      (sink_bit c.net (bit_of bits) (sink - 1)) (sink_bit k.net (bit_of bits) (sink - 1)))

-- Of netlists that aren't found to differ nothing is told.
abbrev pub IsNamedCircuitAnswer : ℕ → Circuit → Circuit → List ℕ → Option (List ℕ) → EquivOutcome → Type 0
IsNamedCircuitAnswer budget c k text told Equal = AreEqual budget c k text × (told ≡ None)
IsNamedCircuitAnswer budget c k text told Differ = AreNamedDifferent c k text told
IsNamedCircuitAnswer budget c k text told Undecided = AreUndecided budget c k text × (told ≡ None)

-- ---- two documents

-- They differ under the values in the text, at the sink in the text and at none before it. There the first has the value
-- `one` and the second the value `other`, under every assignment that gives the sources these values; and that is told.
pub record IsNamedDifference (d e : Document) (text : List ℕ) (told : Option (List ℕ)) : Type 0 where
  pub sink : ℕ
  pub bits : List Bool
  pub differ : DocumentsDiffer d e sink bits
  pub one : Bool
  pub other : Bool
  pub first_value : (given v : Name → Bool) → map given (source_names d) ≡ bits → IsValuationOf d given v →
      sink_in d v (sink - 1) ≡ one
  pub second_value : (given w : Name → Bool) → map given (source_names d) ≡ bits → IsValuationOf e given w →
      sink_in e w (sink - 1) ≡ other
  pub text_is : text ≡ differ_text d.outputs (latches_of d) sink bits
  pub told_is : told ≡ Some (named_text (source_names d) d.outputs (latches_of d) sink bits one other)

-- the answer of `equiv` for two documents, and what is told by names
abbrev pub IsNamedAnswer : ℕ → Document → Document → List ℕ → Option (List ℕ) → EquivOutcome → Type 0
IsNamedAnswer budget d e text told Equal = IsEqualAnswer budget d e text × (told ≡ None)
IsNamedAnswer budget d e text told Differ = IsNamedDifference d e text told
IsNamedAnswer budget d e text told Undecided = IsUndecidedAnswer budget d e text × (told ≡ None)
