-- The signals of a chain's places in a net.
use Rattle.std.specs.Prelude.{ℕ, ◌+◌, ◌-◌, Bool, true, ◌||◌, nat_lt, if◌then◌else◌, List, length, map, slice_index_or}
use Rattle.chain_theory.specs.Chain.{Step, Chain}
use Rattle.net_theory.specs.declared.data.Sig.{Sig}
use Rattle.net_theory.specs.declared.data.Sig.TheVariants.{Node}
use Rattle.net_theory.specs.declared.data.Gate.{Gate}
use Rattle.net_theory.specs.Expansion.{gate_of}
use Rattle.net_theory.specs.Moving.{Kept, kept_after}
use Rattle.window_theory.specs.Nodes.{among}
use Rattle.window_theory.specs.Window.{Window}
use Rattle.window_theory.specs.Substituted.{input_node, step_gate, out_sig, with_sigs}

-- the marks, with the nodes marked too
abbrev pub with_nodes : (ℕ → Bool) → List ℕ → ℕ → Bool
with_nodes marks nodes p = among nodes p || marks p

-- An input is the new signal of the window's input; the first step is at `first`, and the others follow it.
-- Example: with the inputs 5 and 2 and the first step at 9, the chain's places 1, 2, 3, 4 are the new signals
-- of 5 and 2, and the nodes 9 and 10.
abbrev pub chain_sig : (ℕ → Sig) → List ℕ → ℕ → ℕ → Sig
chain_sig nodes inputs first j = if nat_lt (j - 1) (length inputs) then nodes (slice_index_or inputs (j - 1) 0) else Node (first + ((j - 1) - length inputs))

-- the gate of a step
abbrev pub chain_gate : (ℕ → Sig) → List ℕ → ℕ → Step → Gate
chain_gate nodes inputs first s = gate_of s.op (chain_sig nodes inputs first s.j) (chain_sig nodes inputs first s.k)

-- the steps after the copied gates, by the chain's own places
abbrev pub steps_kept : ℕ → Window → Chain → Kept → Kept
steps_kept sources w c k = kept_after (λ p. true) sources (record { nodes = λ j. k.nodes (input_node w j); gates = k.gates }) (c.n + 1) (map step_gate c.steps)

-- and the window's outputs with the signals of the chain's outputs
abbrev pub with_chain : ℕ → Window → Chain → Kept → Kept
with_chain sources w c k = record { nodes = with_sigs k.nodes w.outputs (map (out_sig (steps_kept sources w c k).nodes) c.outs); gates = (steps_kept sources w c k).gates }
