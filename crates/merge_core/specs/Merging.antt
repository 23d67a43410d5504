-- Structural hashing: the state of the pass, and nets without structurally equal gates.
use Rattle.std.specs.Prelude.{◌≡◌, ℕ, ◌+◌, ◌≤◌, ◌<◌, List, [], ◌∷◌, ◌++◌, length, map, slice_get, Some, ◌⊎◌}
use Rattle.net_theory.specs.declared.data.Sig.TheVariants.{Node}
use Rattle.net_theory.specs.declared.data.Gate.{Gate}
use Rattle.net_theory.specs.Net.{Net, end_of, value}
use Rattle.net_theory.specs.Operators.{HasOperator}
use Rattle.net_theory.specs.Moving.{Kept, moved, moved_gate, put_sig}
use Rattle.net_theory.specs.MovingLaws.{Moves}
use Rattle.merge_core.specs.declared.key.StrashKey.{StrashKey}
use Rattle.merge_core.specs.StrashKey.{key_of}

-- no two gates have the same key (are structurally equal)
pub record HaveDistinctKeys (gates : List Gate) : Type 0 where
  pub apart : (i j : ℕ) (g h : Gate) → slice_get gates i ≡ Some g → slice_get gates j ≡ Some h → key_of g ≡ key_of h → i ≡ j

-- each gate has the operator of a gate of the net
pub record HaveOperatorsOf (n : Net) (gates : List Gate) : Type 0 where
  pub each : (j : ℕ) (h : Gate) → slice_get gates j ≡ Some h → HasOperator n h.op

-- ---- the pass

-- `after` is `before`, or has the gate appended; the gate at `index` has the same key
pub record IsFoundOrAppended (gate : Gate) (before after : List Gate) (index : ℕ) : Type 0 where
  pub grown : (after ≡ before) ⊎ (after ≡ before ++ gate ∷ [])
  pub there : Gate
  pub at : slice_get after index ≡ Some there
  pub same : key_of there ≡ key_of gate

-- One step: the gate `node` has its operands mapped, and its node is mapped to a gate with the key of the
-- result.
pub record IsStrashStep (sources node : ℕ) (g : Gate) (k m : Kept) : Type 0 where
  pub index : ℕ
  pub put : IsFoundOrAppended (moved_gate k.nodes g) k.gates m.gates index
  pub nodes : m.nodes ≡ put_sig k.nodes node (Node (sources + 1 + index))

-- the nodes below `node`
abbrev pub IsNodeBelow : ℕ → ℕ → Type 0
IsNodeBelow node p = (1 ≤ p) × (p < node)

-- All nodes below `node` have new signals with their values, the sources keep their nodes, and each gate so far
-- has the operator of a gate of the net.
pub record IsMerged (n : Net) (node : ℕ) (k : Kept) : Type 0 where
  pub moves : Moves n.sources (value n) (IsNodeBelow node) k
  pub stay : (p : ℕ) → p ≤ n.sources → k.nodes p ≡ Node p
  pub few : n.sources + 1 + length k.gates ≤ node
  pub old : HaveOperatorsOf n k.gates

-- the net of the gates so far, with the sinks mapped
abbrev pub net_with : Net → Kept → Net
net_with n k = record { sources = n.sources; gates = k.gates; sinks = map (moved k.nodes) n.sinks }

-- the keys of the gates, all distinct
pub record AreKeys (keys : List StrashKey) (gates : List Gate) : Type 0 where
  pub keys_are : keys ≡ map key_of gates
  pub apart : HaveDistinctKeys gates

-- the gates of the net from `node` on
pub record AreLeft (n : Net) (node : ℕ) (left : List Gate) : Type 0 where
  pub all : node + length left ≡ end_of n
  pub past_sources : n.sources + 1 ≤ node
  pub each : (i j : ℕ) (g : Gate) → slice_get left i ≡ Some g → n.sources + 1 + j ≡ node + i → slice_get n.gates j ≡ Some g
