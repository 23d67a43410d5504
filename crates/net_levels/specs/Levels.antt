-- Levels (logic levels) of nets: how many gates are on a longest path to a node.
use Rattle.std.specs.Prelude.{ℕ, ◌+◌, max, List, [], ◌∷◌}
use Rattle.chain_theory.specs.Levels.{placed}
use Rattle.net_theory.specs.declared.data.Sig.{Sig}
use Rattle.net_theory.specs.declared.data.Sig.TheVariants.{Zero, One, Node}
use Rattle.net_theory.specs.declared.data.Gate.{Gate}
use Rattle.net_theory.specs.Net.{Net}

-- the level of a signal, by the levels of the nodes
abbrev pub sig_level : (ℕ → ℕ) → Sig → ℕ
sig_level levels Zero = 0
sig_level levels One = 0
sig_level levels (Node p) = levels p

-- 1 + the larger level of the gate's two operands
abbrev pub gate_level : (ℕ → ℕ) → Gate → ℕ
gate_level levels g = 1 + max (sig_level levels g.a) (sig_level levels g.b)

-- the levels after a list of gates, the first of which is the node `node`
unfoldable pub levels_after : (ℕ → ℕ) → ℕ → List Gate → ℕ → ℕ
levels_after levels node [] = levels
levels_after levels node (g ∷ gs) = levels_after (placed levels node (gate_level levels g)) (node + 1) gs

-- The level of a source is 0. The level of a gate is 1 + the larger level of its operands (`levels_of_nodes` says so
-- without recursion).
-- Example: with two sources, the gate 3 of both and the gate 4 of 1 and 3 have the levels 1 and 2.
abbrev pub level : Net → ℕ → ℕ
level n = levels_after (λ (p : ℕ). 0) (n.sources + 1) n.gates

-- the largest level of some signals
unfoldable pub largest : (ℕ → ℕ) → List Sig → ℕ
largest levels [] = 0
largest levels (s ∷ ss) = max (sig_level levels s) (largest levels ss)

-- The levels of a net, its depth: the largest level of its sinks.
-- Example: a full adder of two half adders and an OR gate has 3 levels.
abbrev pub levels_of : Net → ℕ
levels_of n = largest (level n) n.sinks
