-- The transitive fanin (TFI) of a set of nodes, the roots.
use Rattle.std.specs.Prelude.{◌≡◌, ℕ, ◌+◌, Bool, true, false, ◌==◌, if◌then◌else◌, List, [], ◌∷◌, slice_get, Some, ◌⊎◌}
use Rattle.std.specs.List.{list_any}
use Rattle.chain_theory.specs.Value.{extended}
use Rattle.net_theory.specs.declared.data.Sig.{Sig}
use Rattle.net_theory.specs.declared.data.Sig.TheVariants.{Zero, One, Node}
use Rattle.net_theory.specs.declared.data.Gate.{Gate}
use Rattle.net_theory.specs.Net.{Net}

-- p is a fanin of the gate
abbrev pub ReadsNode : Gate → ℕ → Type 0
ReadsNode g p = (g.a ≡ Node p) ⊎ (g.b ≡ Node p)

-- `set` contains the roots and is closed under fanins
pub record IsClosedFrom (n : Net) (roots set : ℕ → Bool) : Type 0 where
  pub starts : (p : ℕ) → roots p ≡ true → set p ≡ true
  pub gates : (i p : ℕ) (g : Gate) → slice_get n.gates i ≡ Some g → ReadsNode g p → set (n.sources + 1 + i) ≡ true →
      set p ≡ true

-- p is in the TFI of the roots (roots included): it is in every set that contains the roots and is closed
-- under fanins.
abbrev pub IsReachedFrom : Net → (ℕ → Bool) → ℕ → Type 0
IsReachedFrom n roots p = (set : ℕ → Bool) → IsClosedFrom n roots set → set p ≡ true

abbrev pub is_node : ℕ → Sig → Bool
is_node p Zero = false
is_node p One = false
is_node p (Node q) = q == p

-- whether some sink is the node p
unfoldable pub is_sink : Net → ℕ → Bool
is_sink n p = list_any (is_node p) n.sinks

-- p is in the transitive fanin of the sinks
abbrev pub IsReached : Net → ℕ → Type 0
IsReached n p = IsReachedFrom n (is_sink n) p

-- ---- marks

abbrev pub with_mark : (ℕ → Bool) → Sig → ℕ → Bool
with_mark marks Zero = marks
with_mark marks One = marks
with_mark marks (Node p) = extended marks p true

-- a marked gate marks its fanins
abbrev pub gate_marked : (ℕ → Bool) → ℕ → Gate → ℕ → Bool
gate_marked marks node g = if marks node then with_mark (with_mark marks g.a) g.b else marks

-- marks fanins from the last gate back to the first, which is node `node`
unfoldable pub marked : (ℕ → Bool) → ℕ → List Gate → ℕ → Bool
marked marks node [] = marks
marked marks node (g ∷ gs) = gate_marked (marked marks (node + 1) gs) node g

-- the TFI of the roots (`marks_are_what_is_reached` proves it)
abbrev pub reach : Net → (ℕ → Bool) → ℕ → Bool
reach n roots = marked roots (n.sources + 1) n.gates

-- the TFI of the sinks
abbrev pub live : Net → ℕ → Bool
live n = reach n (is_sink n)
