-- Copying the marked gates of a net, in order, with a map from old nodes to new signals.
use Rattle.std.specs.Prelude.{ℕ, ◌+◌, Bool, ◌==◌, nat_le, if◌then◌else◌, List, [], ◌∷◌, ◌++◌, length}
use Rattle.net_theory.specs.declared.data.Sig.{Sig}
use Rattle.net_theory.specs.declared.data.Sig.TheVariants.{Zero, One, Node}
use Rattle.net_theory.specs.declared.data.Gate.{Gate}
use Rattle.net_theory.specs.Expansion.{gate_of}

-- the map from old nodes to new signals, and the gates so far
pub record Kept : Type 0 where
  pub nodes : ℕ → Sig
  pub gates : List Gate

abbrev pub moved : (ℕ → Sig) → Sig → Sig
moved nodes Zero = Zero
moved nodes One = One
moved nodes (Node p) = nodes p

-- the copy of a gate: its operator on the new signals of its operands
abbrev pub moved_gate : (ℕ → Sig) → Gate → Gate
moved_gate nodes g = gate_of g.op (moved nodes g.a) (moved nodes g.b)

abbrev pub put_sig : (ℕ → Sig) → ℕ → Sig → ℕ → Sig
put_sig nodes node s p = if p == node then s else nodes p

abbrev pub with_kept : ℕ → Kept → ℕ → Gate → Kept
with_kept sources k node g = record {
  nodes = put_sig k.nodes node (Node (sources + 1 + length k.gates));
  gates = k.gates ++ moved_gate k.nodes g ∷ [];
}

-- Appends copies of the marked gates to those of k, in order; the first gate of the list is the node `node`.
unfoldable pub kept_after : (ℕ → Bool) → ℕ → Kept → ℕ → List Gate → Kept
kept_after marks sources k node [] = k
kept_after marks sources k node (g ∷ gs) = kept_after marks sources (if marks node then with_kept sources k node g
    else k) (node + 1) gs

-- the number of marked gates
unfoldable pub marked_count : (ℕ → Bool) → ℕ → List Gate → ℕ
marked_count marks node [] = 0
marked_count marks node (g ∷ gs) = (if marks node then 1 else 0) + marked_count marks (node + 1) gs

-- the map before any gate is copied: sources keep their nodes
abbrev pub sources_stay : ℕ → ℕ → Sig
sources_stay sources p = if nat_le p sources then Node p else Zero

abbrev pub nothing_kept : ℕ → Kept
nothing_kept sources = record { nodes = sources_stay sources; gates = [] }
