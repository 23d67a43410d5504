-- Chains that implement a specification, chains over a basis, and the fewest steps.
use Rattle.std.specs.Prelude.{◌≡◌, ℕ, ◌≤◌, ◌<◌, ◌^◌, ◌-◌, Bool, true, false, length, All, slice_index_or}
use Rattle.chain_theory.specs.Operator.{Basis}
use Rattle.chain_theory.specs.Specification.{Specification}
use Rattle.chain_theory.specs.Chain.{Step, Chain, IsChain}
use Rattle.chain_theory.specs.Value.{out_value}
use Rattle.chain_theory.specs.declared.data.Cell.{Cell}
use Rattle.chain_theory.specs.declared.data.Cell.TheVariants.{Zero, One, Free}
use Rattle.chain_theory.specs.declared.data.Out.TheVariants as outs

-- the value of output h on row t; outputs are numbered from 1
abbrev pub output_value : Chain → ℕ → ℕ → Bool
output_value c h t = out_value c t (slice_index_or c.outs (h - 1) outs.Zero)

-- A cell is met by its own bit, and a free cell (a don't-care) by either.
abbrev pub is_met : Cell → Bool → Bool
is_met Zero true = false
is_met Zero false = true
is_met One bit = bit
is_met Free bit = true

-- A chain agrees with a specification (implements it) where the numbers of inputs and of outputs
-- are equal and, on every row and output whose cell isn't free, the value of the out is the cell.
-- Example: the chain of one step j = 1, k = 2, op = 7 (OR) with the out Place 3 agrees with the
-- cells 0, 1, 1, - of one output and not with 0, 1, 1, 0: on row 3 it is 1.
pub record Agrees (c : Chain) (s : Specification) : Type 0 where
  pub inputs : c.n ≡ s.inputs
  pub outputs : length c.outs ≡ s.outputs
  pub cells : (h t : ℕ) → 1 ≤ h → h ≤ s.outputs → t < 2 ^ s.inputs → is_met (s.cell h t) (output_value c h t) ≡ true

-- Each step's operator is a member of the basis. The operands may be equal and in any order, and a
-- step needn't be read.
abbrev pub IsOver : Basis → Chain → Type 0
IsOver basis c = All (λ (s : Step). basis s.op ≡ true) c.steps

-- a chain of r steps over the basis agrees with the specification
pub record HasChain (s : Specification) (basis : Basis) (r : ℕ) : Type 0 where
  pub chain : Chain
  pub is_chain : IsChain chain
  pub size : length chain.steps ≡ r
  pub is_over : IsOver basis chain
  pub agrees : Agrees chain s

-- no chain over the basis of fewer steps agrees
abbrev pub NoneBelow : Specification → Basis → ℕ → Type 0
NoneBelow s basis size = (q : ℕ) → q < size → HasChain s basis q → ⊥

-- The minimum (combinational complexity): r steps are enough, and no chain of fewer steps agrees.
-- Example: XOR has the minimum 1 over all operators and the minimum 4 over NAND alone.
pub record IsMinimum (s : Specification) (basis : Basis) (r : ℕ) : Type 0 where
  pub reached : HasChain s basis r
  pub none_fewer : NoneBelow s basis r
