-- Constants for a window's outputs, and the cone of its fanout cone with them.
use Rattle.std.specs.Prelude.{◌≡◌, ℕ, ◌==◌, true, false, if◌then◌else◌, List, [], ◌∷◌, ◌++◌, length, slice_get, Some, ◌⊎◌}
use Rattle.chain_theory.specs.Operator.{digit}
use Rattle.net_theory.specs.declared.data.Sig.{Sig}
use Rattle.net_theory.specs.declared.data.Sig.TheVariants as sigs
use Rattle.net_theory.specs.declared.data.Gate.{Gate}
use Rattle.net_theory.specs.Net.{Net}
use Rattle.lane_sim.specs.Cone.{Cone, IsCone, nodes}
use Rattle.window_theory.specs.Nodes.{among, IsRising}
use Rattle.window_theory.specs.Paths.{IsGate, Reads}
use Rattle.window_core.specs.Gates.{IsGateOf}
use Rattle.window_core.specs.Expanding.{gate_nodes, AreAbove}

-- The signal of a node where the outputs have the bits of a number, the first output the most significant
-- one.
-- Example: with the bits of 2 for the outputs 3, 5, the node 3 is One, 5 is Zero, and 4 is itself.
unfoldable pub put_node : List ℕ → ℕ → ℕ → Sig
put_node [] bits p = sigs.Node p
put_node (q ∷ outputs) bits p = if p == q then (if digit bits (length outputs) then sigs.One else sigs.Zero) else put_node outputs bits p

abbrev pub put_sig : List ℕ → ℕ → Sig → Sig
put_sig outputs bits sigs.Zero = sigs.Zero
put_sig outputs bits sigs.One = sigs.One
put_sig outputs bits (sigs.Node p) = put_node outputs bits p

abbrev pub put_gate : List ℕ → ℕ → Gate → Gate
put_gate outputs bits g = record { op = g.op; a = put_sig outputs bits g.a; b = put_sig outputs bits g.b }

-- These are the gates at some nodes, with their operands replaced.
pub record ArePutGates (n : Net) (outputs : List ℕ) (bits : ℕ) (fanout_cone : List ℕ) (gates : List (ℕ × Gate)) : Type 0 where
  pub nodes : gate_nodes gates ≡ fanout_cone
  pub own : (i : ℕ) (x : ℕ × Gate) → slice_get gates i ≡ Some x → (g : Gate) × IsGateOf n x.0 g × (x.1 ≡ put_gate outputs bits g)

-- The gates were appended, but for those that are left.
pub record HasPut (n : Net) (outputs : List ℕ) (bits : ℕ) (fanout_cone left : List ℕ) (old new : List (ℕ × Gate)) : Type 0 where
  pub done : List ℕ
  pub parts : done ++ left ≡ fanout_cone
  pub put : List (ℕ × Gate)
  pub new_is : new ≡ old ++ put
  pub put_are : ArePutGates n outputs bits done put

-- The fanout cone is above a fanin cone of the net: its gates ascend, are no nodes of the fanin cone, and
-- read the window's outputs, nodes of the fanin cone and each other. The outputs are in neither cone.
pub record IsAbove (n : Net) (outputs : List ℕ) (fanin_cone : Cone) (fanout_cone : List ℕ) : Type 0 where
  pub own : AreAbove n fanin_cone.leaves fanin_cone.gates
  pub rising : IsRising fanout_cone
  pub are : (p : ℕ) → among fanout_cone p ≡ true → IsGate n p
  pub apart : (p : ℕ) → among (nodes fanin_cone) p ≡ true → among fanout_cone p ≡ true → ⊥
  pub reads : (p q : ℕ) → among fanout_cone p ≡ true → Reads n p q → (among outputs q ≡ true) ⊎ ((among (nodes fanin_cone) q ≡ true) ⊎ (among fanout_cone q ≡ true))
  pub outputs_rising : IsRising outputs
  pub beside : (p : ℕ) → among (nodes fanin_cone) p ≡ true → among outputs p ≡ false
  pub fanout_cone_beside : (p : ℕ) → among fanout_cone p ≡ true → among outputs p ≡ false

-- the fanin cone with the forced gates of the fanout cone above it
pub record IsPutCone (n : Net) (outputs : List ℕ) (bits : ℕ) (fanin_cone : Cone) (fanout_cone : List ℕ) (c : Cone) : Type 0 where
  pub leaves : c.leaves ≡ fanin_cone.leaves
  pub put : List (ℕ × Gate)
  pub gates : c.gates ≡ fanin_cone.gates ++ put
  pub put_are : ArePutGates n outputs bits fanout_cone put
  pub cone : IsCone c
