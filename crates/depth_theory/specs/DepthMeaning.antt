-- What the verdict of a depth certificate says about chains.
use Rattle.std.specs.Prelude.{◌≡◌, ℕ, ◌<◌, length}
use Rattle.chain_theory.specs.Operator.{Basis}
use Rattle.chain_theory.specs.Specification.{Specification}
use Rattle.chain_theory.specs.Chain.{Chain, IsChain}
use Rattle.chain_theory.specs.Agreement.{Agrees, IsOver, IsMinimum}
use Rattle.chain_theory.specs.Levels.{depth}
use Rattle.depth_theory.specs.declared.data.DepthVerdict.{DepthVerdict}
use Rattle.depth_theory.specs.declared.data.DepthVerdict.TheVariants.{Levels, Bounded}

-- a chain of r steps over the basis that implements the tables and has d levels
pub record HasDepthOf (s : Specification) (basis : Basis) (r d : ℕ) : Type 0 where
  pub chain : Chain
  pub is_chain : IsChain chain
  pub size : length chain.steps ≡ r
  pub is_over : IsOver basis chain
  pub agrees : Agrees chain s
  pub depth_is : depth chain ≡ d

-- no chain of r steps over the basis that implements the tables has fewer than d levels
abbrev pub NoneFlatter : Specification → Basis → ℕ → ℕ → Type 0
NoneFlatter s basis r d = (k : ℕ) → k < d → HasDepthOf s basis r k → ⊥

-- The fewest steps, and the fewest levels among the chains of that number of steps. This ranges over all chains.
pub record IsLeastDepth (s : Specification) (basis : Basis) (r d : ℕ) : Type 0 where
  pub minimum : IsMinimum s basis r
  pub reached : HasDepthOf s basis r d
  pub none_flatter : NoneFlatter s basis r d

-- The fewest steps, a chain of this number of steps with d levels, and none with fewer than low levels.
pub record IsBoundedDepth (s : Specification) (basis : Basis) (r low d : ℕ) : Type 0 where
  pub minimum : IsMinimum s basis r
  pub reached : HasDepthOf s basis r d
  pub none_flatter : NoneFlatter s basis r low

abbrev pub Means : Specification → Basis → ℕ → DepthVerdict → Type 0
Means s basis r (Levels d) = IsLeastDepth s basis r d
Means s basis r (Bounded low d) = IsBoundedDepth s basis r low d
