-- The contracts of the parts of the elaboration.
use Rattle.std.specs.Prelude.{◌≡◌, ℕ, ◌+◌, ◌<◌, ◌≤◌, ◌^◌, if◌then◌else◌, List, [], ◌∷◌, length, Option, Some, None, take}
use Rattle.std.specs.List.{filter_map}
use Rattle.net_theory.specs.declared.data.Sig.{Sig}
use Rattle.net_theory.specs.declared.data.Gate.{Gate}
use Rattle.net_theory.specs.Net.{Net, IsSigBelow, end_of}
use Rattle.net_theory.specs.Cover.{Cover, IsCover}
use Rattle.net_theory.specs.Cost.{cost, cover_cost, merged_table}
use Rattle.net_theory.specs.Document.{Name, is_same, Table, Document}
use Rattle.net_theory.specs.NetOf.{Signals, Growth, graph_of, source_count}
use Rattle.net_theory.specs.NetLaws.{IsGrowth}
use Rattle.net_theory.specs.Dependence.{IsFirstCyclic}
use Rattle.net_core.specs.declared.error.NetError.{NetError}
use Rattle.net_core.specs.declared.error.NetError.TheVariants.{Memory, Cycle}
use Rattle.net_document.specs.Listed.{Listed}
use Rattle.net_document.specs.Refusals.{fault_of, IsRefusedListing}
use Rattle.graph_core.specs.Visit.{Graph}
use Rattle.graph_core.specs.VisitLaws.{IsFinishOrder}

-- the table over its first input alone with the given cover; unchanged if there is none
abbrev pub merged_by : Table → Option Cover → Table
merged_by t None = t
merged_by t (Some c) = record { inputs = take 1 t.inputs; output = t.output; cover = c }

abbrev pub growth : List Gate → Signals → Growth
growth gates signals = record { gates = gates; signals = signals }

-- for each table its fanins, where the function gives the table that drives a name
unfoldable pub graph_by : (Name → Option ℕ) → List Table → Graph
graph_by driver [] = []
graph_by driver (t ∷ ts) = filter_map driver t.inputs ∷ graph_by driver ts

-- each signal is a constant or a node of the net
pub record AreSignalsBelow (n : Net) (signals : Signals) : Type 0 where
  pub each : (name : Name) (s : Sig) → signals name ≡ Some s → IsSigBelow (end_of n) s

-- a cover over `inputs` can be appended to a net
pub record CanExpand (n : Net) (c : Cover) (inputs : List Name) : Type 0 where
  pub cover : IsCover c
  pub width : c.width ≡ length inputs
  pub room : n.sources + length n.gates + cover_cost c inputs < 2 ^ 31

abbrev pub FitsTable : Net → Table → Type 0
FitsTable n t = CanExpand n (merged_table t).cover (merged_table t).inputs

-- The net has the gates of the tables done so far, and the tables `left` may follow in this order.
pub record IsPartlyBuilt (d : Document) (n : Net) (signals : Signals) (left : List ℕ) : Type 0 where
  pub sources : n.sources ≡ source_count d
  pub sinks : n.sinks ≡ []
  pub done : List ℕ
  pub grown : IsGrowth d (growth n.gates signals) done
  pub run : IsFinishOrder (graph_of d.tables) (length (graph_of d.tables)) done left

-- the drivers, with one more name
abbrev pub with_driver : (Name → Option ℕ) → Name → ℕ → Name → Option ℕ
with_driver driver name table n = if is_same name n then Some table else driver n

-- the error is that of a document whose only fault is a combinational loop
abbrev pub IsCyclicError : Document → NetError → Type 0
IsCyclicError d Memory = Unit {0}
IsCyclicError d (Cycle name) = IsFirstCyclic d name
IsCyclicError d e = ⊥

-- Within each limit of gates, the document has no fault; or it is refused with this error.
abbrev pub IsFaultless : Listed → Type 0
IsFaultless l = (most : ℕ) → cost l.document ≤ most → fault_of most l ≡ None

abbrev pub IsRefusedBelow : Listed → NetError → Type 0
IsRefusedBelow l e = (most : ℕ) → cost l.document ≤ most → IsRefusedListing most l e
