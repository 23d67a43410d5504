-- Substitution: a chain replaces a window.
use Rattle.std.specs.Prelude.{◌≡◌, ℕ, ◌+◌, ◌-◌, ◌<◌, Bool, true, false, not, ◌&&◌, List, [], ◌∷◌, length, map, slice_get, slice_index_or, if◌then◌else◌, Some}
use Rattle.chain_theory.specs.Chain.{Step, Chain, IsChain}
use Rattle.chain_theory.specs.Value.{extended, values_after}
use Rattle.chain_theory.specs.declared.data.Out.{Out}
use Rattle.chain_theory.specs.declared.data.Out.TheVariants as outs
use Rattle.net_theory.specs.declared.data.Sig.{Sig}
use Rattle.net_theory.specs.declared.data.Sig.TheVariants.{Zero, One, Node}
use Rattle.net_theory.specs.declared.data.Gate.{Gate}
use Rattle.net_theory.specs.Net.{Net, IsNet, sig_value, value, sink_values}
use Rattle.net_theory.specs.Reach.{reach}
use Rattle.net_theory.specs.Implements.{IsTrivialSink}
use Rattle.net_theory.specs.Expansion.{gate_of}
use Rattle.net_theory.specs.Moving.{Kept, moved, put_sig, kept_after, nothing_kept}
use Rattle.window_theory.specs.Nodes.{among}
use Rattle.window_theory.specs.Window.{Window}
use Rattle.window_theory.specs.Care.{values_with}

-- the chain has an input for each input of the window, and an output for each output
pub record Fits (w : Window) (c : Chain) : Type 0 where
  pub chain : IsChain c
  pub inputs : c.n ≡ length w.inputs
  pub outs : length c.outs ≡ length w.outputs

-- the node of input j, where inputs are numbered from 1
abbrev pub input_node : Window → ℕ → ℕ
input_node w j = slice_index_or w.inputs (j - 1) 0

-- ---- values

-- the bits of the chain's places, where its inputs have the bits of the window's inputs
abbrev pub chain_bits : Net → Window → Chain → (ℕ → Bool) → ℕ → Bool
chain_bits n w c given = values_after (λ j. value n given (input_node w j)) (c.n + 1) c.steps

abbrev pub out_bit : (ℕ → Bool) → Out → Bool
out_bit bits outs.Zero = false
out_bit bits outs.One = true
out_bit bits (outs.Place p) = bits p

-- the bits `bits`, with those of the listed nodes replaced
unfoldable pub with_bits : (ℕ → Bool) → List ℕ → List Bool → ℕ → Bool
with_bits bits [] set = bits
with_bits bits (p ∷ nodes) [] = bits
with_bits bits (p ∷ nodes) (b ∷ set) = extended (with_bits bits nodes set) p b

abbrev pub substituted_bits : Net → Window → Chain → (ℕ → Bool) → ℕ → Bool
substituted_bits n w c given = with_bits given w.outputs (map (out_bit (chain_bits n w c given)) c.outs)

-- The values of the net where the window's outputs have the values of the chain's outputs, computed from the
-- window's inputs.
-- Example: where the window is the gate 3, AND of the sources 1 and 2, and the chain's output is the constant
-- 1, node 3 has 1, and NOT of it at node 4 has 0.
abbrev pub substituted_value : Net → Window → Chain → (ℕ → Bool) → ℕ → Bool
substituted_value n w c given = values_with n (among w.outputs) (substituted_bits n w c given)

-- ---- the net

-- the window's inputs with their transitive fanin (TFI)
abbrev pub is_early : Net → Window → ℕ → Bool
is_early n w = reach n (among w.inputs)

-- all other nodes outside the window
abbrev pub is_late : Net → Window → ℕ → Bool
is_late n w p = not (is_early n w p) && not (among w.gates p)

abbrev pub step_gate : Step → Gate
step_gate s = gate_of s.op (Node s.j) (Node s.k)

abbrev pub out_sig : (ℕ → Sig) → Out → Sig
out_sig nodes outs.Zero = Zero
out_sig nodes outs.One = One
out_sig nodes (outs.Place p) = nodes p

-- the signals `sigs`, with those of the listed nodes replaced
unfoldable pub with_sigs : (ℕ → Sig) → List ℕ → List Sig → ℕ → Sig
with_sigs sigs [] set = sigs
with_sigs sigs (p ∷ nodes) [] = sigs
with_sigs sigs (p ∷ nodes) (s ∷ set) = put_sig (with_sigs sigs nodes set) p s

-- first the early gates are copied
abbrev pub early_kept : Net → Window → Kept
early_kept n w = kept_after (is_early n w) n.sources (nothing_kept n.sources) (n.sources + 1) n.gates

-- then the chain's steps, with a map of the chain's own places
abbrev pub chain_kept : Net → Window → Chain → Kept
chain_kept n w c = kept_after (λ p. true) n.sources (record { nodes = λ j. (early_kept n w).nodes (input_node w j); gates = (early_kept n w).gates }) (c.n + 1) (map step_gate c.steps)

-- and then the late gates
abbrev pub late_start : Net → Window → Chain → Kept
late_start n w c = record { nodes = with_sigs (early_kept n w).nodes w.outputs (map (out_sig (chain_kept n w c).nodes) c.outs); gates = (chain_kept n w c).gates }

abbrev pub all_kept : Net → Window → Chain → Kept
all_kept n w c = kept_after (is_late n w) n.sources (late_start n w c) (n.sources + 1) n.gates

-- The net after the substitution.
unfoldable pub after_substitution : Net → Window → Chain → Net
after_substitution n w c = record { sources = n.sources; gates = (all_kept n w c).gates; sinks = map (moved (all_kept n w c).nodes) n.sinks }

-- ---- its properties

-- the number of gates that pass a test of their node and their operator; the first gate is at node `node`
unfoldable pub passing : (ℕ → ℕ → Bool) → ℕ → List Gate → ℕ
passing test node [] = 0
passing test node (g ∷ gs) = (if test node g.op then 1 else 0) + passing test (node + 1) gs

-- For each test of operators, as many gates of m pass it as gates of n outside the window and steps together.
-- So each gate outside keeps its operator, each step's operator is the operator of a gate, and there are no
-- other gates.
abbrev pub HasOperators : Net → Window → Chain → Net → Type 0
HasOperators n w c m = (test : ℕ → Bool) → passing (λ p op. test op) (m.sources + 1) m.gates ≡
    passing (λ p op. not (among w.gates p) && test op) (n.sources + 1) n.gates + passing (λ p op. test op) (c.n + 1)
    (map step_gate c.steps)

-- m is n with the chain substituted for the window: its sinks have the values that n gives with the chain's
-- outputs in place of the window's, and its gates are those of n outside the window and one for each step. A
-- sink that is a source or a constant stays as it is, and equal sinks stay equal.
-- Example: with NAND of the sources at node 3 and NOT of it, the sink, at node 4, the window of both gates
-- and the chain of one step AND leave the one gate AND.
pub record IsSubstitution (n : Net) (w : Window) (c : Chain) (m : Net) : Type 0 where
  pub net : IsNet m
  pub sources : m.sources ≡ n.sources
  pub sink_count : length m.sinks ≡ length n.sinks
  pub values : (given : ℕ → Bool) → sink_values m given ≡ map (sig_value (substituted_value n w c given)) n.sinks
  pub operators : HasOperators n w c m
  pub gate_count : length m.gates + length w.gates ≡ length n.gates + length c.steps
  pub still : (i : ℕ) (s : Sig) → slice_get n.sinks i ≡ Some s → IsTrivialSink n.sources s → slice_get m.sinks i ≡ Some s
  pub equal : (i j : ℕ) (d : Sig) → i < length n.sinks → j < length n.sinks → slice_index_or n.sinks i d ≡ slice_index_or n.sinks j d → slice_index_or m.sinks i d ≡ slice_index_or m.sinks j d
