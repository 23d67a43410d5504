-- Chains within a bound on their size that implement a specification, and the least of them.
use Rattle.std.specs.Prelude.{ℕ, ◌+◌, ◌≤◌, length, Option, Some, None}
use Rattle.chain_theory.specs.Chain.{Chain}
use Rattle.chain_theory.specs.Operator.{Basis}
use Rattle.chain_theory.specs.Specification.{Specification}
use Rattle.chain_theory.specs.Agreement.{IsOver, Agrees, NoneBelow}
use Rattle.chain_core.specs.Steps.{IsSmallChain}

-- a chain over the basis of at most `most` steps that implements the specification
pub record IsChainWithin (s : Specification) (basis : Basis) (most : ℕ) (c : Chain) : Type 0 where
  pub small : IsSmallChain c
  pub few : length c.steps ≤ most
  pub over : IsOver basis c
  pub agrees : Agrees c s

-- A least chain: no chain over the basis with fewer steps implements the specification. It has at most `most`
-- steps.
-- Example: NOT of one input over NAND alone is the step j = 1, k = 1, op = 14 with the out Place 2.
pub record IsLeastChain (s : Specification) (basis : Basis) (most : ℕ) (c : Chain) : Type 0 where
  pub small : IsSmallChain c
  pub few : length c.steps ≤ most
  pub over : IsOver basis c
  pub agrees : Agrees c s
  pub least : NoneBelow s basis (length c.steps)

-- Some: a least chain. None: no chain over the basis of at most `most` steps implements the specification.
abbrev pub IsLeastAnswer : Specification → Basis → ℕ → Option Chain → Type 0
IsLeastAnswer s basis most (Some c) = IsLeastChain s basis most c
IsLeastAnswer s basis most None = NoneBelow s basis (most + 1)
