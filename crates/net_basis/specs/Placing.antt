-- Gates of chains, appended to those of a net: the state of the pass, and what each part promises.
use Rattle.std.specs.Prelude.{◌≡◌, ℕ, ◌+◌, ◌≤◌, ◌<◌, Bool, true, false, List, [], ◌∷◌, ◌++◌, length, map, slice_get, Some}
use Rattle.chain_theory.specs.Operator.{apply, Basis}
use Rattle.net_theory.specs.declared.data.Sig.{Sig}
use Rattle.net_theory.specs.declared.data.Sig.TheVariants.{Zero, One, Node}
use Rattle.net_theory.specs.declared.data.Gate.{Gate}
use Rattle.net_theory.specs.Net.{Net, IsSigBelow, IsGateAt, sig_value, gate_value, values_of, value}
use Rattle.net_theory.specs.ValueLaws.{ExtendsGates}
use Rattle.net_theory.specs.Expansion.{gate_of}
use Rattle.net_theory.specs.Moving.{Kept, moved, put_sig}
use Rattle.net_theory.specs.MovingLaws.{Moves}
use Rattle.net_basis.specs.declared.join.Join.{Join}
use Rattle.net_basis.specs.declared.recipe.Recipe.{Recipe}
use Rattle.net_basis.specs.Joins.{function_of, operands, makes, is_closed}
use Rattle.net_basis.specs.LeastChains.{IsLeastChain}
use Rattle.net_basis.specs.OverBasis.{HaveOperatorsIn, IsInexpressible, most_for_one}

-- ---- recipes

-- The known functions have both operands and the constants and are closed under the basis, and the steps make each of
-- them.
pub record IsClosure (basis : Basis) (known : ℕ → Bool) (joins : List Join) : Type 0 where
  pub first : known 3 ≡ true
  pub second : known 5 ≡ true
  pub zero : known 0 ≡ true
  pub one : known 15 ≡ true
  pub closed : is_closed basis known ≡ true
  pub made : (w : ℕ) → known w ≡ true → makes basis operands joins w ≡ true
  pub few : length joins ≤ most_for_one

-- A recipe is a least chain for the operator, of few steps, or else the basis has none.
pub record IsRecipe (basis : Basis) (op : ℕ) (r : Recipe) : Type 0 where
  pub chain : r.is_made ≡ true → IsLeastChain basis op r.joins.items
  pub few : length r.joins.items ≤ most_for_one
  pub none : r.is_made ≡ false → IsInexpressible basis op
  pub never : r.is_made ≡ false → (joins : List Join) → makes basis operands joins op ≡ true → ⊥

-- the recipes of the sixteen operators
pub record AreRecipes (basis : Basis) (rs : List Recipe) : Type 0 where
  pub count : length rs ≡ 16
  pub each : (op : ℕ) (r : Recipe) → slice_get rs op ≡ Some r → IsRecipe basis op r

-- ---- the gates of a recipe

-- the signals of the functions that need no gate
pub record HasOperands (at : ℕ → Sig) (a b : Sig) : Type 0 where
  pub first : at 3 ≡ a
  pub second : at 5 ≡ b
  pub zero : at 0 ≡ Zero
  pub one : at 15 ≡ One

-- the gate of a step, where functions have these signals
abbrev pub joining_gate : (ℕ → Sig) → Join → Gate
joining_gate at j = gate_of j.op (at j.first) (at j.second)

-- the signals of functions, and the gates, after one more step
abbrev pub with_join : ℕ → Kept → Join → Kept
with_join sources k j = record {
  nodes = put_sig k.nodes (function_of j) (Node (sources + 1 + length k.gates));
  gates = k.gates ++ joining_gate k.nodes j ∷ [];
}

-- after all steps
unfoldable pub placed : ℕ → Kept → List Join → Kept
placed sources k [] = k
placed sources k (j ∷ js) = placed sources (with_join sources k j) js

-- The gates are extended by gates of the basis, and the signal has the value of the operator on the signals a and b.
pub record IsExpressed (basis : Basis) (sources : ℕ) (old new : List Gate) (a b : Sig) (op : ℕ) (s : Sig) : Type 0 where
  pub grown : ExtendsGates sources old new
  pub operators : HaveOperatorsIn basis old → HaveOperatorsIn basis new
  pub below : IsSigBelow (sources + 1 + length new) s
  pub value : (given : ℕ → Bool) → sig_value (values_of given sources new) s ≡
      apply op (sig_value (values_of given sources new) a) (sig_value (values_of given sources new) b)

-- a signal with the gate's value, which isn't above its operands
pub record IsSignalOf (g : Gate) (s : Sig) : Type 0 where
  pub below : (end : ℕ) → IsGateAt end g → IsSigBelow end s
  pub value : (f : ℕ → Bool) → sig_value f s ≡ gate_value f g

-- a gate of the basis with the same operands and the same value
pub record IsMemberFor (basis : Basis) (g h : Gate) : Type 0 where
  pub member : basis h.op ≡ true
  pub low : h.op < 16
  pub first : h.a ≡ g.a
  pub second : h.b ≡ g.b
  pub value : (f : ℕ → Bool) → gate_value f h ≡ gate_value f g

-- ---- the pass over the gates

-- the nodes below `node`
abbrev pub IsNodeBelow : ℕ → ℕ → Type 0
IsNodeBelow node p = (1 ≤ p) × (p < node)

-- All nodes below `node` have new signals with their values, the sources keep their nodes, and the gates so far are
-- over the basis.
pub record IsConverted (basis : Basis) (n : Net) (node : ℕ) (k : Kept) : Type 0 where
  pub moves : Moves n.sources (value n) (IsNodeBelow node) k
  pub stay : (p : ℕ) → p ≤ n.sources → k.nodes p ≡ Node p
  pub operators : HaveOperatorsIn basis k.gates

-- the net of the gates so far, with the sinks mapped
abbrev pub net_with : Net → Kept → Net
net_with n k = record { sources = n.sources; gates = k.gates; sinks = map (moved k.nodes) n.sinks }

-- the gates of the net from `node` on
pub record AreLeft (n : Net) (node : ℕ) (left : List Gate) : Type 0 where
  pub all : node + length left ≡ n.sources + 1 + length n.gates
  pub past_sources : n.sources + 1 ≤ node
  pub each : (i j : ℕ) (g : Gate) → slice_get left i ≡ Some g → n.sources + 1 + j ≡ node + i →
      slice_get n.gates j ≡ Some g
