-- The index of a net: reference counts and fanout lists.
use Rattle.std.specs.Prelude.{◌≡◌, ℕ, ◌+◌, ◌≤◌, ◌<◌, min, if◌then◌else◌, List, [], ◌∷◌, length, slice_get, slice_index_or, Some, ◌⊎◌}
use Rattle.net_theory.specs.declared.data.Sig.{Sig}
use Rattle.net_theory.specs.declared.data.Sig.TheVariants as sigs
use Rattle.net_theory.specs.declared.data.Gate.{Gate}
use Rattle.net_theory.specs.Net.{Net, end_of}
use Rattle.net_theory.specs.Reach.{is_node}
use Rattle.window_theory.specs.Paths.{Reads}
use Rattle.window_core.specs.declared.fanouts.Nearest.{Nearest}

-- ---- reference counts

-- how often a signal names a node
abbrev pub named_by : ℕ → Sig → ℕ
named_by p s = if is_node p s then 1 else 0

abbrev pub named_by_gate : ℕ → Gate → ℕ
named_by_gate p g = named_by p g.a + named_by p g.b

-- a sum over gates; the first is at node `node`
unfoldable pub sum_gates : (ℕ → Gate → ℕ) → ℕ → List Gate → ℕ
sum_gates count node [] = 0
sum_gates count node (g ∷ gs) = count node g + sum_gates count (node + 1) gs

unfoldable pub named_by_sinks : ℕ → List Sig → ℕ
named_by_sinks p [] = 0
named_by_sinks p (s ∷ ss) = named_by p s + named_by_sinks p ss

-- how many operands and sinks of a net name a node: its reference count
abbrev pub uses_of : Net → ℕ → ℕ
uses_of n p = sum_gates (λ q g. named_by_gate p g) (n.sources + 1) n.gates + named_by_sinks p n.sinks

-- ---- the next lower fanout

-- the node that a signal names; 0 is no node, and stands for constants
abbrev pub node_of : Sig → ℕ
node_of sigs.Zero = 0
node_of sigs.One = 0
node_of (sigs.Node p) = p

-- the greatest gate below q that reads p, or 0 where there is none
pub record IsEarlier (n : Net) (q p r : ℕ) : Type 0 where
  pub found : (r ≡ 0) ⊎ (Reads n r p × (r < q))
  pub most : (x : ℕ) → Reads n x p → x < q → x ≤ r

-- for both operands of the gate at q
pub record IsEarlierOf (n : Net) (q : ℕ) (g : Gate) (e : Nearest) : Type 0 where
  pub first : IsEarlier n q (node_of g.a) e.first
  pub second : IsEarlier n q (node_of g.b) e.second

-- for each of the gates
pub record AreEarlier (n : Net) (list : List Nearest) : Type 0 where
  pub size : length list ≡ length n.gates
  pub each : (i : ℕ) (g : Gate) (e : Nearest) → slice_get n.gates i ≡ Some g → slice_get list i ≡ Some e → IsEarlierOf n (n.sources + 1 + i) g e

-- ---- the next higher fanout

-- the least gate at q or above it that reads p, or 0 where there is none
pub record IsLater (n : Net) (q p r : ℕ) : Type 0 where
  pub found : (r ≡ 0) ⊎ (Reads n r p × (q ≤ r))
  pub most : (x : ℕ) → Reads n x p → q ≤ x → (1 ≤ r) × (r ≤ x)

-- above the gate at q, for both of its operands
pub record IsLaterOf (n : Net) (q : ℕ) (g : Gate) (e : Nearest) : Type 0 where
  pub first : IsLater n (q + 1) (node_of g.a) e.first
  pub second : IsLater n (q + 1) (node_of g.b) e.second

-- for each of the gates, with the last one first
pub record AreLater (n : Net) (list : List Nearest) : Type 0 where
  pub size : length list ≡ length n.gates
  pub each : (i j : ℕ) (g : Gate) (e : Nearest) → i + j + 1 ≡ length n.gates → slice_get n.gates i ≡ Some g → slice_get list j ≡ Some e → IsLaterOf n (n.sources + 1 + i) g e

-- ---- the index

pub record Fanouts : Type 0 where
  pub uses : List ℕ
  pub earlier : List Nearest
  pub later : List Nearest
  pub first : List ℕ

-- Each node has its reference count, where 255 stands for all numbers from 255 on; each gate has, for both
-- operands, their greatest fanout below the gate and their least one above it; and each node has its first
-- fanout.
-- Example: with XOR of two sources at node 3, the one sink, the reference counts of the nodes 1, 2 and 3 are
-- 1, and there are no earlier fanouts.
pub record AreFanouts (n : Net) (r : Fanouts) : Type 0 where
  pub size : length r.uses ≡ end_of n
  pub uses : (p : ℕ) → p < end_of n → slice_index_or r.uses p 0 ≡ min (uses_of n p) 255
  pub earlier : AreEarlier n r.earlier
  pub later : AreLater n r.later
  pub first_size : length r.first ≡ end_of n
  pub first : (p : ℕ) → p < end_of n → IsLater n (n.sources + 1) p (slice_index_or r.first p 0)
