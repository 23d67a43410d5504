-- Nodes with a representative are mapped to it, and the other gates are kept.
use Rattle.std.specs.Prelude.{ℕ, Option, None, Some}
use Rattle.net_theory.specs.declared.data.Sig.{Sig}
use Rattle.net_theory.specs.declared.data.Gate.{Gate}
use Rattle.net_theory.specs.Moving.{Kept, moved, put_sig, with_kept}

-- One step, for the gate `node`: if it has a representative, its node is mapped to the representative's new
-- signal; otherwise a copy of the gate is appended.
abbrev pub reduced : ℕ → Kept → ℕ → Gate → Option Sig → Kept
reduced sources k node g None = with_kept sources k node g
reduced sources k node g (Some s) = record { nodes = put_sig k.nodes node (moved k.nodes s); gates = k.gates }
