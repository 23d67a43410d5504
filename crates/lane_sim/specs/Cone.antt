-- Cones: leaves with given values, gates above them, and the values of both.
use Rattle.std.specs.Prelude.{◌≡◌, ℕ, ◌≤◌, Bool, false, ◌==◌, if◌then◌else◌, List, [], ◌∷◌, ◌++◌, length, map, take, slice_get, Some}
use Rattle.chain_theory.specs.Operator.{digit}
use Rattle.chain_theory.specs.Value.{extended}
use Rattle.net_theory.specs.declared.data.Sig.{Sig}
use Rattle.net_theory.specs.declared.data.Sig.TheVariants.{Zero, One, Node}
use Rattle.net_theory.specs.declared.data.Gate.{Gate}
use Rattle.net_theory.specs.Net.{gate_value}
use Rattle.net_theory.specs.Limits.{most_leaves}

-- Leaves are nodes, and each gate is paired with its node. Nodes need not be in ascending order.
-- Example: XOR of the nodes 4 and 9 at node 12 is leaves = 4, 9 and the one gate (12, 6 on `Node 4` and
-- `Node 9`).
pub record Cone : Type 0 where
  pub leaves : List ℕ
  pub gates : List (ℕ × Gate)

abbrev pub node_of : ℕ × Gate → ℕ
node_of x = x.0

-- the nodes of a cone: the leaves, then the gates, in order
abbrev pub nodes : Cone → List ℕ
nodes c = c.leaves ++ map node_of c.gates

-- the signal is a constant or a node among `ps`
abbrev pub IsSigAmong : List ℕ → Sig → Type 0
IsSigAmong ps Zero = Unit {0}
IsSigAmong ps One = Unit {0}
IsSigAmong ps (Node p) = (k : ℕ) × (slice_get ps k ≡ Some p)

-- the nodes are distinct
abbrev pub AreApart : List ℕ → Type 0
AreApart ps = (i j p : ℕ) → slice_get ps i ≡ Some p → slice_get ps j ≡ Some p → i ≡ j

-- the operands of the gate are constants or nodes among `ps`
pub record IsGateOver (ps : List ℕ) (g : Gate) : Type 0 where
  pub first : IsSigAmong ps g.a
  pub second : IsSigAmong ps g.b

-- At most 12 leaves; all nodes are distinct; the operands of each gate are constants, leaves or earlier gates.
pub record IsCone (c : Cone) : Type 0 where
  pub few : length c.leaves ≤ most_leaves
  pub apart : AreApart (nodes c)
  pub gates : (i : ℕ) (x : ℕ × Gate) → slice_get c.gates i ≡ Some x → IsGateOver (c.leaves ++ map node_of (take i c.gates)) x.1

-- ---- values

-- The bits of the leaves under an assignment, which is a number; its most significant bit is the first leaf's.
-- Example: under 6 the leaves 4, 9, 5 have the bits 1, 1, 0.
unfoldable pub leaf_bits : List ℕ → ℕ → ℕ → Bool
leaf_bits [] row p = false
leaf_bits (q ∷ qs) row p = if p == q then digit row (length qs) else leaf_bits qs row p

-- each gate in turn sets the bit of its node
unfoldable pub gates_after : (ℕ → Bool) → List (ℕ × Gate) → ℕ → Bool
gates_after bits [] = bits
gates_after bits (x ∷ xs) = gates_after (extended bits x.0 (gate_value bits x.1)) xs

-- The value of a node under an assignment of the leaves. The laws of this crate restate it as equations.
-- Example: XOR of the leaves 4 and 9 has the values 0, 1, 1, 0 under the assignments 0, 1, 2, 3.
abbrev pub value_in : Cone → ℕ → ℕ → Bool
value_in c row = gates_after (leaf_bits c.leaves row) c.gates
