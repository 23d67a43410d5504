-- Cones of a net, and the fanin cone of some nodes while it is expanded.
use Rattle.std.specs.Prelude.{◌≡◌, ℕ, ◌+◌, ◌≤◌, ◌<◌, Bool, true, false, ◌==◌, max, List, [], ◌∷◌, ◌++◌, length, map, slice_get, Some, ◌⊎◌}
use Rattle.net_theory.specs.declared.data.Sig.{Sig}
use Rattle.net_theory.specs.declared.data.Sig.TheVariants as sigs
use Rattle.net_theory.specs.declared.data.Gate.{Gate}
use Rattle.net_theory.specs.Net.{Net, end_of}
use Rattle.net_theory.specs.Reach.{ReadsNode}
use Rattle.lane_sim.specs.Cone.{node_of}
use Rattle.window_theory.specs.Nodes.{among, IsRising}
use Rattle.window_theory.specs.Paths.{HasPath}
use Rattle.window_theory.specs.FaninCone.{ExpandsTo}
use Rattle.window_core.specs.Gates.{IsGateOf}
use Rattle.window_core.specs.Rising.{put_sig}
use Rattle.net_theory.specs.Limits.{most_leaves}

abbrev pub gate_nodes : List (ℕ × Gate) → List ℕ
gate_nodes gates = map node_of gates

-- The gates are those of the net at their nodes, ascend, and read the leaves or each other.
pub record AreAbove (n : Net) (leaves : List ℕ) (gates : List (ℕ × Gate)) : Type 0 where
  pub few : length leaves ≤ most_leaves
  pub leaves_rising : IsRising leaves
  pub gates_rising : IsRising (gate_nodes gates)
  pub apart : (p : ℕ) → among leaves p ≡ true → among (gate_nodes gates) p ≡ true → ⊥
  pub own : (i : ℕ) (x : ℕ × Gate) → slice_get gates i ≡ Some x → IsGateOf n x.0 x.1
  pub reads : (i q : ℕ) (x : ℕ × Gate) → slice_get gates i ≡ Some x → ReadsNode x.1 q → (among leaves q ≡ true) ⊎ (among (gate_nodes gates) q ≡ true)

-- the nodes are leaves or gates
abbrev pub AreLeavesOrGates : List ℕ → List (ℕ × Gate) → List ℕ → Type 0
AreLeavesOrGates leaves gates nodes = (p : ℕ) → among nodes p ≡ true → (among leaves p ≡ true) ⊎ (among (gate_nodes gates) p ≡ true)

-- one of the nodes, or in their transitive fanin
pub record IsInFanin (n : Net) (nodes : List ℕ) (p : ℕ) : Type 0 where
  pub node : ℕ
  pub inside : among nodes node ≡ true
  pub why : (p ≡ node) ⊎ HasPath n p node

-- the leaves once the gate at the last leaf, after `prefix`, is expanded
abbrev pub leaves_after : List ℕ → Gate → List ℕ
leaves_after prefix g = put_sig g.b (put_sig g.a prefix)

-- The fanin cone of `nodes` so far has the leaves `leaves` and the gates `gates`.
pub record IsFaninCone (n : Net) (nodes leaves : List ℕ) (gates : List (ℕ × Gate)) : Type 0 where
  pub above : AreAbove n leaves gates
  pub below : (p q : ℕ) → among leaves p ≡ true → among (gate_nodes gates) q ≡ true → p < q
  pub within : (p : ℕ) → among leaves p ≡ true → p < end_of n
  pub covered : AreLeavesOrGates leaves gates nodes
  pub expands_to : (last : List ℕ) → ExpandsTo n leaves last → ExpandsTo n nodes last
  pub leaves_in_fanin : (p : ℕ) → among leaves p ≡ true → IsInFanin n nodes p
  pub gates_in_fanin : (p : ℕ) → among (gate_nodes gates) p ≡ true → IsInFanin n nodes p

-- The greatest leaf was expanded.
pub record IsExpanded (n : Net) (old new : List ℕ) (before after : List (ℕ × Gate)) : Type 0 where
  pub node : ℕ
  pub gate : Gate
  pub prefix : List ℕ
  pub of : IsGateOf n node gate
  pub parts : old ≡ prefix ++ node ∷ []
  pub few : length (leaves_after prefix gate) ≤ most_leaves
  pub leaves : new ≡ leaves_after prefix gate
  pub gates : after ≡ before ++ (node, gate) ∷ []

-- a number above all nodes
unfoldable pub top_of : List ℕ → ℕ
top_of [] = 0
top_of (p ∷ nodes) = max (p + 1) (top_of nodes)

-- both signals name one node
abbrev pub same_node : Sig → Sig → Bool
same_node (sigs.Node p) (sigs.Node q) = p == q
same_node (sigs.Node p) sigs.Zero = false
same_node (sigs.Node p) sigs.One = false
same_node sigs.Zero s = false
same_node sigs.One s = false
