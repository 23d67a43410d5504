-- Circuits over a basis: every gate has an operator of the basis.
use Rattle.std.specs.Prelude.{◌≡◌, ℕ, ◌+◌, ◌-◌, ◌^◌, ◌≤◌, ◌<◌, ◌⊎◌, Bool, true, false, List, [], ◌∷◌, length}
use Rattle.std.specs.Prelude.{slice_get, slice_index_or, Some}
use Rattle.chain_theory.specs.Operator.{Basis}
use Rattle.net_theory.specs.declared.data.Sig.{Sig}
use Rattle.net_theory.specs.declared.data.Gate.{Gate}
use Rattle.net_theory.specs.Net.{Net, IsNet, sink_values}
use Rattle.net_theory.specs.Implements.{IsTrivialSink}
use Rattle.net_theory.specs.Circuit.{Circuit, IsProper}
use Rattle.net_theory.specs.ExchangeLaws.{with_net}
use Rattle.net_theory.specs.Limits.{default_gates, most_gates}
use Rattle.net_document.specs.Equivalence.{AreEquivalentCircuits}
use Rattle.net_basis.specs.declared.join.Join.{Join}
use Rattle.net_basis.specs.Joins.{operands, makes, is_closed}
use Rattle.net_basis.specs.LocalWord.{local_word}
use Rattle.net_basis.specs.declared.answer.NetOver.{NetOver}
use Rattle.net_basis.specs.declared.answer.NetOver.TheVariants as nets
use Rattle.net_basis.specs.declared.answer.Converted.{Converted}
use Rattle.net_basis.specs.declared.answer.Converted.TheVariants as circuits

-- ---- over a basis

-- every gate has an operator of the basis
pub record HaveOperatorsIn (basis : Basis) (gates : List Gate) : Type 0 where
  pub each : (i : ℕ) (g : Gate) → slice_get gates i ≡ Some g → basis g.op ≡ true

-- m is functionally equivalent to n, with as many sources and sinks. Trivial sinks of n are unchanged in m, and equal
-- sinks stay equal, so that m can replace n in a circuit. It may have more gates.
pub record BehavesAs (n m : Net) : Type 0 where
  pub net : IsNet m
  pub sources : m.sources ≡ n.sources
  pub sink_count : length m.sinks ≡ length n.sinks
  pub values : (given : ℕ → Bool) → sink_values m given ≡ sink_values n given
  pub still : (i : ℕ) (s : Sig) → slice_get n.sinks i ≡ Some s → IsTrivialSink n.sources s → slice_get m.sinks i ≡ Some s
  pub equal : (i j : ℕ) (d : Sig) → i < length n.sinks → j < length n.sinks →
      slice_index_or n.sinks i d ≡ slice_index_or n.sinks j d → slice_index_or m.sinks i d ≡ slice_index_or m.sinks j d

-- ---- what a basis can't express

-- Some set of functions of a and b has both operands and the constants, is closed under the basis, and lacks the
-- operator: so no chain over the basis computes it, even where gates may have constant operands.
-- Example: XOR alone can't express AND, which is none of 0, a, b, a XOR b and the complements of these.
pub record IsInexpressible (basis : Basis) (op : ℕ) : Type 0 where
  pub known : ℕ → Bool
  pub first : known 3 ≡ true
  pub second : known 5 ≡ true
  pub zero : known 0 ≡ true
  pub one : known 15 ≡ true
  pub closed : is_closed basis known ≡ true
  pub lacks : known op ≡ false

-- the gate of the node is a function of its different signals that the basis can't express
pub record IsInexpressibleAt (basis : Basis) (n : Net) (node : ℕ) : Type 0 where
  pub gate : Gate
  pub from : n.sources + 1 ≤ node
  pub at : slice_get n.gates (node - (n.sources + 1)) ≡ Some gate
  pub inexpressible : IsInexpressible basis (local_word gate)

-- ---- how many gates

-- the most gates that take the place of one: each of them makes a function that the others don't
abbrev pub most_for_one : ℕ
most_for_one = 16

-- A chain of k gates over the basis makes the function.
-- Example: XOR over NAND has one of four.
pub record HasChainOf (basis : Basis) (word k : ℕ) : Type 0 where
  pub joins : List Join
  pub made : makes basis operands joins word ≡ true
  pub size : length joins ≡ k

-- How many gates take the place of one, by its function: a constant and a copy need none, an operator of the basis is
-- one, and for any other function there is a chain of so many. No chain has fewer.
pub record AreLengths (basis : Basis) (lengths : ℕ → ℕ) : Type 0 where
  pub free : (word : ℕ) → operands word ≡ true → lengths word ≡ 0
  pub member : (word : ℕ) → operands word ≡ false → basis word ≡ true → lengths word ≡ 1
  pub chain : (word : ℕ) → word < 16 → operands word ≡ false → basis word ≡ false →
      HasChainOf basis word (lengths word) ⊎ IsInexpressible basis word
  pub least : (word : ℕ) (joins : List Join) → word < 16 → makes basis operands joins word ≡ true →
      lengths word ≤ length joins
  pub few : (word : ℕ) → lengths word ≤ most_for_one

-- as many gates as take the place of these, each by its function of its different signals
unfoldable pub most_over : (ℕ → ℕ) → List Gate → ℕ
most_over lengths [] = 0
most_over lengths (g ∷ gs) = lengths (local_word g) + most_over lengths gs

-- ---- converted

-- m has no more gates than take the place of those of n, and at most as many as a netlist that is read by default
pub record IsFewOver (basis : Basis) (n m : Net) : Type 0 where
  pub lengths : ℕ → ℕ
  pub are_lengths : AreLengths basis lengths
  pub few : length m.gates ≤ default_gates
  pub fewer : length m.gates ≤ most_over lengths n.gates

-- m is n over the basis: n itself if all its gates have operators of the basis, and else with no more gates than take
-- the place of those of n.
pub record IsNetOver (basis : Basis) (n m : Net) : Type 0 where
  pub behaves : BehavesAs n m
  pub operators : HaveOperatorsIn basis m.gates
  pub itself : HaveOperatorsIn basis n.gates → m ≡ n
  pub fewer : (HaveOperatorsIn basis n.gates → ⊥) → IsFewOver basis n m
  pub few : length m.gates ≤ most_gates

-- k is c over the basis, with the same names
pub record IsCircuitOver (basis : Basis) (c k : Circuit) : Type 0 where
  pub same : k ≡ with_net c k.net
  pub proper : IsProper k
  pub equivalent : AreEquivalentCircuits c k
  pub over : IsNetOver basis c.net k.net

-- Not all gates of n have operators of the basis, and with the gates that take the place of those of n, the net could
-- have more than a netlist that is read by default, or 2^31 nodes.
pub record MayHaveTooMany (basis : Basis) (n : Net) : Type 0 where
  pub other : HaveOperatorsIn basis n.gates → ⊥
  pub lengths : ℕ → ℕ
  pub are_lengths : AreLengths basis lengths
  pub many : default_gates < most_over lengths n.gates ⊎ 2 ^ 31 ≤ n.sources + 1 + most_over lengths n.gates

-- ---- answers

abbrev pub IsNetAnswer : Basis → Net → NetOver → Type 0
IsNetAnswer basis n nets.Itself = IsNetOver basis n n
IsNetAnswer basis n (nets.Over m) = IsNetOver basis n m
IsNetAnswer basis n (nets.Cannot node) = IsInexpressibleAt basis n node
IsNetAnswer basis n nets.TooMany = MayHaveTooMany basis n

-- a property of the circuit over the basis
abbrev pub IfOver : Converted → (Circuit → Type 0) → Type 0
IfOver (circuits.Over k) P = P k
IfOver (circuits.Cannot k node) P = Unit {0}
IfOver (circuits.TooMany k) P = Unit {0}

-- of the circuit as it was, and the node of a gate
abbrev pub IfCannot : Converted → (Circuit → ℕ → Type 0) → Type 0
IfCannot (circuits.Over k) P = Unit {0}
IfCannot (circuits.Cannot k node) P = P k node
IfCannot (circuits.TooMany k) P = Unit {0}

abbrev pub IfTooMany : Converted → (Circuit → Type 0) → Type 0
IfTooMany (circuits.Over k) P = Unit {0}
IfTooMany (circuits.Cannot k node) P = Unit {0}
IfTooMany (circuits.TooMany k) P = P k
