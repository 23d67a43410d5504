-- A chain that implements a window's specification, substituted for the window.
use Rattle.std.specs.Prelude.{◌≡◌, ℕ, ◌+◌, ◌<◌, ◌^◌, Bool, true, List, length, map, slice_get, Some, ◌⊎◌}
use Rattle.chain_theory.specs.Specification.{Specification}
use Rattle.chain_theory.specs.Chain.{Step, Chain, IsChain}
use Rattle.chain_theory.specs.Agreement.{Agrees}
use Rattle.net_theory.specs.Operators.{HasOperator}
use Rattle.net_theory.specs.Net.{Net, sig_value, value, sink_values}
use Rattle.window_theory.specs.Nodes.{among}
use Rattle.window_theory.specs.Window.{Window, IsOutput}
use Rattle.window_theory.specs.Care.{IsSpecificationOf}
use Rattle.window_theory.specs.Substituted.{substituted_value, IsSubstitution}

-- the result has fewer than 2^31 nodes
abbrev pub HasNodeRoom : Net → Window → Chain → Type 0
HasNodeRoom n w c = n.sources + length n.gates + length c.steps < 2 ^ 31 + length w.gates

-- The chain implements the specification of the window. It doesn't matter which one, since the same chains
-- implement all of them.
pub record Meets (n : Net) (w : Window) (c : Chain) : Type 0 where
  pub chain : IsChain c
  pub specification : Specification
  pub is : IsSpecificationOf n w specification
  pub agrees : Agrees c specification

-- Each sink of n keeps its value where the window's outputs have the values of the chain's outputs. A chain
-- that implements the specification does so, and so does one that differs where no sink depends on it.
-- Example: where the gate 4 is AND of the gate 3 and the source 1, and the only sink, a chain for the window
-- of 3 may differ where the source 1 is 0.
abbrev pub KeepsSinks : Net → Window → Chain → Type 0
KeepsSinks n w c = (given : ℕ → Bool) → map (sig_value (substituted_value n w c given)) n.sinks ≡ sink_values n given

-- `gates` are the window's gates, and perhaps more
abbrev pub HasGates : Window → List ℕ → Type 0
HasGates w gates = (p : ℕ) → among w.gates p ≡ true → among gates p ≡ true

-- The outputs of the gates keep their values where the window's outputs have the values of the chain's
-- outputs. So the chain may differ as far as the gates around the window hide it.
-- Example: where the gate 4 is AND of the gate 3 and the source 1, and nothing else reads the gate 3, then 4
-- is the only output of the gates 3 and 4.
abbrev pub KeepOutputs : Net → Window → Chain → List ℕ → Type 0
KeepOutputs n w c gates = (given : ℕ → Bool) (p : ℕ) → IsOutput n gates p → substituted_value n w c given p ≡ value n given p

-- m is n with the chain substituted for the window, and its sinks keep their values.
-- Example: with NAND of the sources at node 3 and NOT of it, the sink, at node 4, the window of both gates
-- and the chain of one step AND leave the one gate AND.
pub record IsSubstituted (n : Net) (w : Window) (c : Chain) (m : Net) : Type 0 where
  pub after_substitution : IsSubstitution n w c m
  pub values : (given : ℕ → Bool) → sink_values m given ≡ sink_values n given

-- some step has the operator
pub record IsStepOperator (c : Chain) (op : ℕ) : Type 0 where
  pub index : ℕ
  pub step : Step
  pub at : slice_get c.steps index ≡ Some step
  pub is : step.op ≡ op

-- each gate of m has an operator of n or of the chain
abbrev pub HasOldOperators : Net → Chain → Net → Type 0
HasOldOperators n c m = (op : ℕ) → HasOperator m op → HasOperator n op ⊎ IsStepOperator c op
