-- XOR-AND graphs. A literal is 2 * node, or 2 * node + 1 for the complement.
use Rattle.std.specs.Prelude.{◌≡◌, ℕ, ◌+◌, ◌*◌, ◌<◌, ◌^◌, List, length, slice_get, Some, All}
use Rattle.xag_core.specs.declared.xag.XagGate.{XagGate}

pub record Xag : Type 0 where
  pub sources : ℕ
  pub gates : List XagGate
  pub sinks : List ℕ

-- the literal is of one of the first `nodes` nodes
abbrev pub IsLiteralBelow : ℕ → ℕ → Type 0
IsLiteralBelow nodes l = l < 2 * nodes

-- the operands of the gate at `node` are literals of nodes below it
pub record IsXagGateAt (node : ℕ) (g : XagGate) : Type 0 where
  pub first : IsLiteralBelow node g.first
  pub second : IsLiteralBelow node g.second

pub record AreXagGates (sources : ℕ) (gates : List XagGate) : Type 0 where
  pub each : (i : ℕ) (g : XagGate) → slice_get gates i ≡ Some g → IsXagGateAt (sources + 1 + i) g

-- the first number after the nodes
abbrev pub nodes_of : Xag → ℕ
nodes_of x = x.sources + 1 + length x.gates

pub record IsXag (x : Xag) : Type 0 where
  pub gates : AreXagGates x.sources x.gates
  pub sinks : All (IsLiteralBelow (nodes_of x)) x.sinks
  pub nodes : x.sources + length x.gates < 2 ^ 31

-- a graph without sinks, as it grows
pub record GrownXag : Type 0 where
  pub sources : ℕ
  pub gates : List XagGate

pub record IsGrownXag (b : GrownXag) : Type 0 where
  pub gates : AreXagGates b.sources b.gates
  pub nodes : b.sources + length b.gates < 2 ^ 31

-- as many sinks as literals, each of a node of the graph
pub record HasSinks (b : GrownXag) (literals sinks : List ℕ) : Type 0 where
  pub count : length sinks ≡ length literals
  pub below : All (IsLiteralBelow (b.sources + 1 + length b.gates)) sinks

-- y has the sources and the number of sinks of x
pub record HasEnds (x y : Xag) : Type 0 where
  pub sources : y.sources ≡ x.sources
  pub sinks : length y.sinks ≡ length x.sinks
