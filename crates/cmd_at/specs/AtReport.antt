-- The task of the values of two netlists under given values of their sources.
use Rattle.std.specs.Prelude.{◌≡◌, ◌≢◌, ◌↔◌, ℕ, ◌≤◌, Bool, true, List, length, map, IsTrue, None, codes}
use Rattle.net_theory.specs.Document.{Name, Document, latches_of, source_names, sink_names}
use Rattle.net_theory.specs.Behaviour.{IsValuationOf, HasOneValuation}
use Rattle.net_theory.specs.Net.{sink_values, bit_of}
use Rattle.net_theory.specs.Circuit.{Circuit, sources_of}
use Rattle.net_theory.specs.Limits.{most_of_netlist}
use Rattle.format_names.specs.declared.formats.FormatPair.{FormatPair}
use Rattle.equiv_theory.specs.Counterexample.{HaveSameInterface}
use Rattle.equiv_run.specs.declared.answer.CompareError.{CompareError}
use Rattle.equiv_run.specs.Pairs.{ShareInterface}
use Rattle.equiv_run.specs.Two.{is_bare}
use Rattle.equiv_formats.specs.Comparison.{AreNetlists, ShareSections, HasFormatsFault}
use Rattle.frame_core.specs.declared.status.Status.TheVariants.{Done, Malformed}
use Rattle.frame_core.specs.Reported.{Reply, Refusal, at}
use Rattle.frame_core.specs.Task.{Task, at_once}
use Rattle.cmd_equiv.specs.EquivReport.{equiv_refusal}
use Rattle.cmd_equiv.specs.WithReport.{AreSaid, IsSecondEmpty, empty_refusal}
use Rattle.cmd_at.specs.declared.circuits.Valued.{Valued}
use Rattle.cmd_at.specs.declared.circuits.Valued.TheVariants.{Text, Miscounted}
use Rattle.cmd_at.specs.AtText.{values_text}

-- ---- two circuits

-- The text has the values of the sinks of the two nets.
pub record IsCircuitText (c k : Circuit) (bits : List Bool) (text : List ℕ) : Type 0 where
  pub interface : HaveSameInterface c k
  pub each_source : length bits ≡ c.net.sources
  pub same : Bool
  pub same_is : IsTrue same ↔ (sink_values c.net (bit_of bits) ≡ sink_values k.net (bit_of bits))
  pub is : text ≡ values_text (sources_of c) c.outputs c.latches same bits (sink_values c.net (bit_of bits))
      (sink_values k.net (bit_of bits))

-- They have `count` sources, and the bits are more or fewer.
pub record AreMiscounted (c k : Circuit) (bits : List Bool) (count : ℕ) : Type 0 where
  pub interface : HaveSameInterface c k
  pub counted : c.net.sources ≡ count
  pub other : length bits ≢ count

abbrev pub IsCircuitValued : Circuit → Circuit → List Bool → Valued → Type 0
IsCircuitValued c k bits (Text text) = IsCircuitText c k bits text.items
IsCircuitValued c k bits (Miscounted count) = AreMiscounted c k bits count

-- ---- two documents

-- Under these bits of its sources the document has these values of its outputs and next states: some assignment gives
-- the sources these bits, and under each that does, the document has one valuation, with these values.
pub record HasValues (d : Document) (bits values : List Bool) : Type 0 where
  pub has_one : (given : Name → Bool) → HasOneValuation d given
  pub some : (given : Name → Bool) × (map given (source_names d) ≡ bits)
  pub are : (given v : Name → Bool) → map given (source_names d) ≡ bits → IsValuationOf d given v →
      map v (sink_names d) ≡ values

-- ---- two texts

-- The texts are netlists of one interface, each in its format, and `text` has the values of both.
pub record IsValuesText (p : FormatPair) (bits : List Bool) (first second text : List ℕ) : Type 0 where
  pub one : Document
  pub other : Document
  pub netlists : AreNetlists p first second one other
  pub interface : ShareInterface one other
  pub sections : ShareSections p first second
  pub ones : List Bool
  pub others : List Bool
  pub first_values : HasValues one bits ones
  pub second_values : HasValues other bits others
  pub same : Bool
  pub same_is : IsTrue same ↔ (ones ≡ others)
  pub is : text ≡ values_text (source_names one) one.outputs (latches_of one) same bits ones others

-- The texts are netlists of one interface with `count` sources, and the bits are more or fewer.
pub record IsOtherCount (p : FormatPair) (bits : List Bool) (first second : List ℕ) (count : ℕ) : Type 0 where
  pub one : Document
  pub other : Document
  pub netlists : AreNetlists p first second one other
  pub interface : ShareInterface one other
  pub sections : ShareSections p first second
  pub counted : length (source_names one) ≡ count
  pub apart : length bits ≢ count

abbrev pub IsValued : FormatPair → List Bool → List ℕ → List ℕ → Valued → Type 0
IsValued p bits first second (Text text) = IsValuesText p bits first second text.items
IsValued p bits first second (Miscounted count) = IsOtherCount p bits first second count

-- ---- the task

-- Neither text is without a directive, and `text` has the values.
pub record IsAtAnswer (p : FormatPair) (bits : List Bool) (first second text : List ℕ) : Type 0 where
  pub within : length second ≤ most_of_netlist
  pub said : AreSaid first second
  pub answer : IsValuesText p bits first second text

-- Why there are no values: as of `equiv` of two files, or the bits are more or fewer than the sources.
pub data AtFault : Type 0 where
  FirstEmpty : AtFault
  SecondEmpty : AtFault
  Faulty : (error : CompareError) → AtFault
  OtherCount : (count : ℕ) → AtFault

-- Neither text is without a directive, and this holds of the two.
pub record IsSaid (first second : List ℕ) (P : Type 0) : Type 0 where
  pub said : AreSaid first second
  pub holds : P

abbrev pub HasAtFault : FormatPair → List Bool → List ℕ → List ℕ → AtFault → Type 0
HasAtFault p bits first second FirstEmpty = is_bare first ≡ true
HasAtFault p bits first second SecondEmpty = IsSecondEmpty first second
HasAtFault p bits first second (Faulty error) = IsSaid first second (HasFormatsFault p first second error)
HasAtFault p bits first second (OtherCount count) = IsSaid first second (IsOtherCount p bits first second count)

pub record MeetsAtFault (p : FormatPair) (bits : List Bool) (first second : List ℕ) (fault : AtFault) : Type 0 where
  pub within : length second ≤ most_of_netlist
  pub met : HasAtFault p bits first second fault

abbrev pub at_reply : List ℕ → Reply
at_reply text = record { text = text; report = None; status = Done }

-- Example: `SourceCount 3`, for other bits than three.
abbrev pub count_refusal : ℕ → Refusal
count_refusal count = record { status = Malformed; named = at (codes "SourceCount") count }

abbrev pub at_refusal : AtFault → Refusal
at_refusal FirstEmpty = empty_refusal (codes "First")
at_refusal SecondEmpty = empty_refusal (codes "Second")
at_refusal (Faulty error) = equiv_refusal error
at_refusal (OtherCount count) = count_refusal count

-- The bytes of the task's source are the second text.
abbrev pub at_task : FormatPair → List Bool → List ℕ → Task
at_task p bits first =
    at_once most_of_netlist (List ℕ) (IsAtAnswer p bits first) at_reply AtFault (MeetsAtFault p bits first) at_refusal
