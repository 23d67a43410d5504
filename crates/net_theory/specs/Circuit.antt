-- Circuits: nets with names.
use Rattle.std.specs.Prelude.{◌≡◌, ℕ, ◌+◌, ◌-◌, ◌≤◌, ◌<◌, Bool, true, List, [], ◌++◌, length, map, All, Option, Some}
use Rattle.std.specs.Prelude.{None, slice_index_or}
use Rattle.net_theory.specs.declared.data.Sig.TheVariants.{Zero, Node}
use Rattle.net_theory.specs.declared.data.Trigger.{Trigger}
use Rattle.net_theory.specs.Net.{Net, IsNet, sink_values}
use Rattle.net_theory.specs.Document.{Name, IsName, has, are_distinct, Latch, Document, latches_of, latch_output}
use Rattle.net_theory.specs.Document.{sink_names}
use Rattle.net_theory.specs.Behaviour.{IsValuationOf, HasOneValuation}
use Rattle.net_theory.specs.WellFormed.{IsLatch}
use Rattle.net_theory.specs.NetOf.{net_of}
use Rattle.net_theory.specs.Cost.{cost}
use Rattle.net_theory.specs.Limits.{most_gates}

-- A net with names. The net's sources are the inputs, then the latches' outputs; its sinks are the outputs,
-- then the latches' inputs, each in order.
pub record Circuit : Type 0 where
  pub model : Name
  pub inputs : List Name
  pub outputs : List Name
  pub clocks : List Name
  pub latches : List Latch
  pub net : Net

-- the names of the sources, from node 1 on
abbrev pub sources_of : Circuit → List Name
sources_of c = c.inputs ++ map latch_output c.latches

-- the control isn't an output, unless it is also a source
abbrev pub IsControlApart : List Name → List Name → Option (Trigger × Name) → Type 0
IsControlApart outputs sources None = Unit {0}
IsControlApart outputs sources (Some c) = has outputs c.1 ≡ true → has sources c.1 ≡ true

-- A circuit that can be written: each source and sink has a name, the names of the sources are distinct,
-- outputs with the same name are the same signal, and there are at most 1,000,000 gates.
pub record IsProper (c : Circuit) : Type 0 where
  pub net : IsNet c.net
  pub source_count : c.net.sources ≡ length (sources_of c)
  pub sink_count : length c.net.sinks ≡ length c.outputs + length c.latches
  pub model : IsName c.model
  pub inputs : All IsName c.inputs
  pub outputs : All IsName c.outputs
  pub clocks : All IsName c.clocks
  pub latches : All IsLatch c.latches
  pub distinct : are_distinct (sources_of c) ≡ true
  pub source_outputs : (i j : ℕ) → i < length c.outputs → j < length (sources_of c) →
      slice_index_or c.outputs i [] ≡ slice_index_or (sources_of c) j [] →
      slice_index_or c.net.sinks i Zero ≡ Node (j + 1)
  pub equal_outputs : (i j : ℕ) → i < length c.outputs → j < length c.outputs →
      slice_index_or c.outputs i [] ≡ slice_index_or c.outputs j [] →
      slice_index_or c.net.sinks i Zero ≡ slice_index_or c.net.sinks j Zero
  pub controls : All (λ (l : Latch). IsControlApart c.outputs (sources_of c) l.control) c.latches
  pub gates : length c.net.gates ≤ most_gates

-- the bit of a source node, by the bit of its name
abbrev pub by_node : List Name → (Name → Bool) → ℕ → Bool
by_node names given node = given (slice_index_or names (node - 1) [])

-- the values of a circuit's sinks, the outputs and then the next states, where the sources have the bits
-- that `given` gives their names
abbrev pub values_by_name : Circuit → (Name → Bool) → List Bool
values_by_name c given = sink_values c.net (by_node (sources_of c) given)

-- A document is equivalent to a circuit: it has the circuit's inputs, outputs, clocks and latches, and
-- under every assignment it has exactly one valuation, which gives the sinks the circuit's values.
pub record Describes (d : Document) (c : Circuit) : Type 0 where
  pub inputs : d.inputs ≡ c.inputs
  pub outputs : d.outputs ≡ c.outputs
  pub clocks : d.clocks ≡ c.clocks
  pub latches : latches_of d ≡ c.latches
  pub one : (given : Name → Bool) → HasOneValuation d given
  pub sinks : (given v : Name → Bool) → IsValuationOf d given v → map v (sink_names d) ≡ values_by_name c given

-- The circuit of a document: it has the document's model name and is equivalent to it, and its net is
-- the document's net, with as many gates as the document costs.
pub record IsCircuitOf (d : Document) (c : Circuit) : Type 0 where
  pub model : d.model ≡ c.model
  pub describes : Describes d c
  pub net : net_of d ≡ Some c.net
  pub gates : cost d ≡ length c.net.gates
  pub proper : IsProper c
