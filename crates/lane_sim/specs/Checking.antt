-- The conditions of a cone, node by node: each node is new, and each operand is an earlier node.
use Rattle.std.specs.Prelude.{◌≡◌, ℕ, List, ◌++◌, map, take, slice_get, Some}
use Rattle.net_theory.specs.declared.data.Sig.TheVariants.{Node}
use Rattle.net_theory.specs.declared.data.Gate.{Gate}
use Rattle.lane_sim.specs.Cone.{IsSigAmong, IsGateOver, node_of}

-- the nodes of the leaves and of the gates
abbrev pub numbered : List ℕ → List (ℕ × Gate) → List ℕ
numbered leaves gates = leaves ++ map node_of gates

-- the gate's node isn't among `ps`, and its operands are constants or among `ps`
pub record MayComeNext (ps : List ℕ) (x : ℕ × Gate) : Type 0 where
  pub node : IsSigAmong ps (Node x.0) → ⊥
  pub gate : IsGateOver ps x.1

-- the leaves are distinct
pub record AreDistinctLeaves (leaves : List ℕ) : Type 0 where
  pub each : (i p : ℕ) → slice_get leaves i ≡ Some p → IsSigAmong (take i leaves) (Node p) → ⊥

-- each gate may follow the leaves and the gates before it
pub record AreNext (leaves : List ℕ) (gates : List (ℕ × Gate)) : Type 0 where
  pub each : (i : ℕ) (x : ℕ × Gate) → slice_get gates i ≡ Some x → MayComeNext (numbered leaves (take i gates)) x
