-- Nets (short for logic networks) of two-input gates, and the values of their nodes.
--
-- Glossary: the terms of this program's netlists, with those of ABC and mockturtle.
--   net                   logic network of two-input gates, each with an arbitrary function
--   circuit               net with names
--   document              parsed netlist, syntax tree
--   source                combinational input (CI): primary input or latch output
--   sink                  combinational output (CO): primary output or latch input
--   node                  a source or a gate, by its index; node 0 doesn't exist
--   signal                node or constant; `Signed`: literal, possibly complemented
--   a gate reads a node   the node is a fanin of the gate, the gate a fanout of the node
--   reach, live           transitive fanin (TFI); TFI of the sinks
--   order of a visit      topological order by depth-first search
--   table                 `.names` node, with a cover: sum of products (SOP)
--   expand, cost          decomposition into two-input gates, and their number
--   dangling gate         gate outside the TFI of the sinks; a cleanup removes it
--   keep, move            copying gates with a map from old nodes to new signals
--   strash                structural hashing: merging structurally equal gates
--   m implements n        functional equivalence with no more gates
use Rattle.std.specs.Prelude.{◌≡◌, ℕ, ◌+◌, ◌-◌, ◌==◌, if◌then◌else◌, slice_index_or, ◌≤◌, ◌<◌, ◌^◌, Bool, true, false}
use Rattle.std.specs.Prelude.{List, [], ◌∷◌, length, map, slice_get, Some, All}
use Rattle.chain_theory.specs.Operator.{apply}
use Rattle.chain_theory.specs.Value.{extended}
use Rattle.net_theory.specs.declared.data.Sig.{Sig}
use Rattle.net_theory.specs.declared.data.Sig.TheVariants.{Zero, One, Node}
use Rattle.net_theory.specs.declared.data.Gate.{Gate}

-- The nodes 1 to `sources` are the sources. The gates are the next nodes, in a topological order. The sinks
-- are the net's output signals.
-- Example: XOR of two sources has sources = 2, one gate with op = 6, a = `Node 1` and b = `Node 2`, and one
-- sink, `Node 3`.
pub record Net : Type 0 where
  pub sources : ℕ
  pub gates : List Gate
  pub sinks : List Sig

-- the signal is a constant or a node below `node`
abbrev pub IsSigBelow : ℕ → Sig → Type 0
IsSigBelow node Zero = Unit {0}
IsSigBelow node One = Unit {0}
IsSigBelow node (Node p) = (1 ≤ p) × (p < node)

-- the operands (fanins) of the gate at `node` are constants or nodes below it
pub record IsGateAt (node : ℕ) (g : Gate) : Type 0 where
  pub operator : g.op < 16
  pub first : IsSigBelow node g.a
  pub second : IsSigBelow node g.b

-- the operands of each gate are below it; the first gate comes after the sources
pub record AreGates (sources : ℕ) (gates : List Gate) : Type 0 where
  pub each : (i : ℕ) (g : Gate) → slice_get gates i ≡ Some g → IsGateAt (sources + 1 + i) g

-- one more than the index of the last node
abbrev pub end_of : Net → ℕ
end_of n = n.sources + 1 + length n.gates

pub record IsNet (n : Net) : Type 0 where
  pub gates : AreGates n.sources n.gates
  pub sinks : All (IsSigBelow (end_of n)) n.sinks
  pub nodes : n.sources + length n.gates < 2 ^ 31

-- ---- values

-- the value of a signal, by the bits of the nodes
abbrev pub sig_value : (ℕ → Bool) → Sig → Bool
sig_value bits Zero = false
sig_value bits One = true
sig_value bits (Node p) = bits p

-- the value of a gate: its operator on the values of its operands
abbrev pub gate_value : (ℕ → Bool) → Gate → Bool
gate_value bits g = apply g.op (sig_value bits g.a) (sig_value bits g.b)

-- the bit of a node, in a list that begins with node 1; there is no node 0
abbrev pub bit_of : List Bool → ℕ → Bool
bit_of bits node = if node == 0 then false else slice_index_or bits (node - 1) false

-- Simulation: each gate in turn sets the bit of its node; the first gate is node `node`.
unfoldable pub values_after : (ℕ → Bool) → ℕ → List Gate → ℕ → Bool
values_after bits node [] = bits
values_after bits node (g ∷ gs) = values_after (extended bits node (gate_value bits g)) (node + 1) gs

-- the bits of the nodes, where the sources have the bits of `given`
abbrev pub values_of : (ℕ → Bool) → ℕ → List Gate → ℕ → Bool
values_of given sources gates = values_after given (sources + 1) gates

-- The value of a source is the bit that `given` gives it, and the value of a gate's node is its
-- operator on the values of its operands (proved by `values_of_nodes`).
-- Example: XOR under the given bits 1 and 0 has the values 1, 0 and 1 at the nodes 1, 2 and 3.
abbrev pub value : Net → (ℕ → Bool) → ℕ → Bool
value n given node = values_of given n.sources n.gates node

-- the values of the sinks, in order
abbrev pub sink_values : Net → (ℕ → Bool) → List Bool
sink_values n given = map (sig_value (values_of given n.sources n.gates)) n.sinks
