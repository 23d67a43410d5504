-- Two netlists in one text, one after the other: the answers and the refusals.
use Rattle.std.specs.Prelude.{◌≡◌, ◌≢◌, ℕ, ◌-◌, ◌*◌, ◌^◌, ◌≤◌, ◌<◌, Bool, false, List, length, map, take, drop}
use Rattle.std.specs.Prelude.{slice_index_or, Some, None, Ok}
use Rattle.sat_theory.specs.Line.{Line}
use Rattle.sat_theory.specs.Log.{Refutes, ReachesBudget, KeepsHalf, BoundsLiveAdditions}
use Rattle.net_theory.specs.Document.{Name, Document, latches_of, source_names, sink_names}
use Rattle.net_theory.specs.Behaviour.{IsValuationOf, HasOneValuation, IsEquivalent}
use Rattle.net_theory.specs.Cost.{cost}
use Rattle.net_theory.specs.WellFormed.{IsWellFormed}
use Rattle.net_theory.specs.Net.{Net}
use Rattle.net_theory.specs.NetOf.{net_of}
use Rattle.net_core.specs.declared.error.NetError.{NetError}
use Rattle.net_document.specs.Listed.{Listed}
use Rattle.net_document.specs.Format.{IsNetlist, HasNetFault}
use Rattle.blif_core.specs.Blif.{blif_format}
use Rattle.equiv_theory.specs.Miter.{variables, miter}
use Rattle.equiv_core.specs.Limits.{IsWithinBudget}
use Rattle.equiv_run.specs.declared.answer.EquivOutcome.{EquivOutcome}
use Rattle.equiv_run.specs.declared.answer.EquivOutcome.TheVariants.{Equal, Differ, Undecided}
use Rattle.equiv_run.specs.declared.answer.CompareError.{CompareError}
use Rattle.equiv_run.specs.declared.answer.CompareError.TheVariants.{NoSecond, First, Second, DifferentInterface}
use Rattle.equiv_run.specs.declared.answer.CompareError.TheVariants.{Memory}
use Rattle.equiv_run.specs.Split.{split_of}
use Rattle.equiv_run.specs.Texts.{equal_text, undecided_text, differ_text}

-- ---- two documents

-- The text is a BLIF netlist within the limit of gates, and this is its document.
pub record Lists (bytes : List ℕ) (d : Document) : Type 0 where
  pub listed : Listed
  pub said : blif_format.listed bytes ≡ Ok listed
  pub is : listed.document ≡ d
  pub within : cost d ≤ blif_format.most
  pub well : IsWellFormed d

-- The text is two BLIF netlists with these documents; the first ends where the text is split.
pub record AreTwo (bytes : List ℕ) (d e : Document) : Type 0 where
  pub place : ℕ
  pub parted : split_of bytes ≡ Some place
  pub first : Lists (take place bytes) d
  pub second : Lists (drop place bytes) e

-- The documents have the same inputs, outputs and clocks, and their latches agree in order, output, control and
-- initial value.
pub record ShareInterface (d e : Document) : Type 0 where
  pub inputs : d.inputs ≡ e.inputs
  pub outputs : d.outputs ≡ e.outputs
  pub clocks : d.clocks ≡ e.clocks
  pub latches : latches_of d ≡ latches_of e

-- the value of the output or next state at index i, in a map of a document
abbrev pub sink_in : Document → (Name → Bool) → ℕ → Bool
sink_in d v i = slice_index_or (map v (sink_names d)) i false

-- Each of the two documents has exactly one map for each assignment. Some assignment gives the sources these
-- values; and under every one that does, the two maps differ at this output or next state, counted from 1, and
-- agree at all before it.
pub record DocumentsDiffer (d e : Document) (sink : ℕ) (bits : List Bool) : Type 0 where
  pub first_has_one : (given : Name → Bool) → HasOneValuation d given
  pub second_has_one : (given : Name → Bool) → HasOneValuation e given
  pub each_source : length bits ≡ length (source_names d)
  pub counted : 1 ≤ sink
  pub below : sink ≤ length (sink_names d)
  pub some : (given : Name → Bool) × (map given (source_names d) ≡ bits)
  pub differ : (given v w : Name → Bool) → map given (source_names d) ≡ bits → IsValuationOf d given v → IsValuationOf e given w →
      sink_in d v (sink - 1) ≢ sink_in e w (sink - 1)
  pub least : (given v w : Name → Bool) → map given (source_names d) ≡ bits → IsValuationOf d given v → IsValuationOf e given w →
      (j : ℕ) → j < sink - 1 → sink_in d v j ≡ sink_in e w j

-- the miter of the documents' nets
pub record HasMiter (d e : Document) (first second : Net) : Type 0 where
  pub first_is : net_of d ≡ Some first
  pub second_is : net_of e ≡ Some second

-- ---- the answers

-- They are equivalent: the lines refute the miter of their nets, and bound their live additions. The budget bounds
-- their additions.
pub record IsEqualAnswer (budget : ℕ) (d e : Document) (text : List ℕ) : Type 0 where
  pub same : IsEquivalent d e
  pub first : Net
  pub second : Net
  pub nets : HasMiter d e first second
  pub lines : List Line
  pub refutes : Refutes (miter first second) lines
  pub live_bounded : BoundsLiveAdditions (miter first second) lines
  pub within_budget : IsWithinBudget budget (miter first second) lines
  pub text_is : text ≡ equal_text lines

-- They differ under the values in the text, at the sink in the text and at none before it.
pub record IsDifferAnswer (d e : Document) (text : List ℕ) : Type 0 where
  pub sink : ℕ
  pub bits : List Bool
  pub differ : DocumentsDiffer d e sink bits
  pub text_is : text ≡ differ_text d.outputs (latches_of d) sink bits

-- The lines have spent the budget on the miter of their nets, at least half of their additions are live at the
-- end, they bound their live additions, and the budget bounds their additions. A budget of twice three to the number
-- of the miter's variables is never spent.
pub record IsUndecidedAnswer (budget : ℕ) (d e : Document) (text : List ℕ) : Type 0 where
  pub first : Net
  pub second : Net
  pub nets : HasMiter d e first second
  pub lines : List Line
  pub spent : ReachesBudget (miter first second) lines budget
  pub kept : KeepsHalf (miter first second) lines
  pub live_bounded : BoundsLiveAdditions (miter first second) lines
  pub within_budget : IsWithinBudget budget (miter first second) lines
  pub small : budget < 2 * 3 ^ variables first second
  pub text_is : text ≡ undecided_text lines

abbrev pub IsDocumentAnswer : ℕ → Document → Document → List ℕ → EquivOutcome → Type 0
IsDocumentAnswer budget d e text Equal = IsEqualAnswer budget d e text
IsDocumentAnswer budget d e text Differ = IsDifferAnswer d e text
IsDocumentAnswer budget d e text Undecided = IsUndecidedAnswer budget d e text

-- The bytes are two netlists of one interface, and the text is the answer for them.
pub record IsAnswer (budget : ℕ) (bytes text : List ℕ) (outcome : EquivOutcome) : Type 0 where
  pub first : Document
  pub second : Document
  pub two : AreTwo bytes first second
  pub interface : ShareInterface first second
  pub reported : IsDocumentAnswer budget first second text outcome

-- ---- the refusals

-- a fault of the first netlist; and one of the second, whose lines are numbered from 1, while the first has none
pub record HasFirstFault (bytes : List ℕ) (e : NetError) : Type 0 where
  pub place : ℕ
  pub parted : split_of bytes ≡ Some place
  pub fault : HasNetFault blif_format (take place bytes) e

pub record HasSecondFault (bytes : List ℕ) (e : NetError) : Type 0 where
  pub place : ℕ
  pub parted : split_of bytes ≡ Some place
  pub first : IsNetlist blif_format (take place bytes)
  pub fault : HasNetFault blif_format (drop place bytes) e

-- two netlists of different interfaces
pub record HasOtherInterface (bytes : List ℕ) : Type 0 where
  pub first : Document
  pub second : Document
  pub two : AreTwo bytes first second
  pub other : ShareInterface first second → ⊥

-- Why the bytes aren't two netlists that can be compared. Out of memory isn't such a reason.
abbrev pub HasPairFault : List ℕ → CompareError → Type 0
HasPairFault bytes NoSecond = split_of bytes ≡ None
HasPairFault bytes (First e) = HasFirstFault bytes e
HasPairFault bytes (Second e) = HasSecondFault bytes e
HasPairFault bytes DifferentInterface = HasOtherInterface bytes
HasPairFault bytes Memory = ⊥

-- Running out of memory is always allowed.
abbrev pub IsRefusedPair : List ℕ → CompareError → Type 0
IsRefusedPair bytes NoSecond = HasPairFault bytes NoSecond
IsRefusedPair bytes (First e) = HasPairFault bytes (First e)
IsRefusedPair bytes (Second e) = HasPairFault bytes (Second e)
IsRefusedPair bytes DifferentInterface = HasPairFault bytes DifferentInterface
IsRefusedPair bytes Memory = Unit {0}
