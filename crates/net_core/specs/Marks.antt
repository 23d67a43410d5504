-- The sets and maps that the code's lists represent: marked nodes, and new signals of old nodes.
use Rattle.std.specs.Prelude.{◌≡◌, ℕ, ◌+◌, Bool, false, List, [], ◌∷◌, slice_index_or, slice_get, Some}
use Rattle.net_theory.specs.declared.data.Sig.{Sig}
use Rattle.net_theory.specs.declared.data.Sig.TheVariants.{Zero}
use Rattle.net_theory.specs.declared.data.Gate.{Gate}
use Rattle.net_theory.specs.Net.{IsGateAt}
use Rattle.net_theory.specs.Reach.{with_mark}
use Rattle.net_theory.specs.Moving.{Kept}

-- the set of marked nodes
unfoldable pub set_of : List Bool → ℕ → Bool
set_of marks p = slice_index_or marks p false

abbrev pub no_marks : ℕ → Bool
no_marks p = false

-- a set of nodes, extended by the nodes of a list of signals
unfoldable pub sink_marks : (ℕ → Bool) → List Sig → ℕ → Bool
sink_marks marks [] = marks
sink_marks marks (s ∷ ss) = sink_marks (with_mark marks s) ss

-- the map that a list represents
unfoldable pub nodes_of : List Sig → ℕ → Sig
nodes_of nodes p = slice_index_or nodes p Zero

abbrev pub kept : List Sig → List Gate → Kept
kept nodes gates = record { nodes = nodes_of nodes; gates = gates }

-- the operands of each gate are below it; the first gate is the node `node`
pub record AreAt (node : ℕ) (gs : List Gate) : Type 0 where
  pub each : (i : ℕ) (g : Gate) → slice_get gs i ≡ Some g → IsGateAt (node + i) g
