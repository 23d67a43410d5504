-- Levels (logic levels): the longest path of steps from the inputs to a place.
use Rattle.std.specs.Prelude.{◌≡◌, ℕ, zero, suc, ◌+◌, ◌≤◌, ◌==◌, if◌then◌else◌, List, [], ◌∷◌, length, max}
use Rattle.chain_theory.specs.Operator.{Basis}
use Rattle.chain_theory.specs.Specification.{Specification}
use Rattle.chain_theory.specs.Chain.{Step, Chain, IsChain}
use Rattle.chain_theory.specs.Agreement.{Agrees, IsOver}

-- the levels, changed at one place
abbrev pub placed : (ℕ → ℕ) → ℕ → ℕ → ℕ → ℕ
placed levels place level p = if p == place then level else levels p

-- 1 + the larger level of the step's two operands
abbrev pub step_level : (ℕ → ℕ) → Step → ℕ
step_level levels s = 1 + max (levels s.j) (levels s.k)

-- The levels after a list of steps, the first of which is at the given place.
unfoldable pub levels_after : (ℕ → ℕ) → ℕ → List Step → ℕ → ℕ
levels_after levels place [] = levels
levels_after levels place (s ∷ ss) = levels_after (placed levels place (step_level levels s)) (place + 1) ss

-- the level of a place, in a chain of these steps over n inputs
abbrev pub level_in : ℕ → List Step → ℕ → ℕ
level_in n steps = levels_after (λ (p : ℕ). 0) (n + 1) steps

-- The level of an input's place is 0. The level of a step's place is 1 + the larger level of its
-- operands (`levels_of_places` says so without recursion).
-- Example: in x4 = x1 AND x2, x5 = x3 XOR x4 the levels of the places 4 and 5 are 1 and 2.
abbrev pub level : Chain → ℕ → ℕ
level c place = level_in c.n c.steps place

-- A chain has at most d levels: no place's level is above d.
abbrev pub HasLevels : ℕ → Chain → Type 0
HasLevels d c = (p : ℕ) → 1 ≤ p → p ≤ c.n + length c.steps → level c p ≤ d

-- the greatest of the numbers f 0, .., f (k - 1); 0 where k is 0
unfoldable pub greatest : (ℕ → ℕ) → ℕ → ℕ
greatest f zero = 0
greatest f (suc k) = max (greatest f k) (f k)

-- The depth of a chain: the greatest level of its steps, and 0 where it has none.
-- Example: the full adder x4 = x1 XOR x2, x5 = x3 XOR x4, x6 = x1 AND x2, x7 = x3 AND x4, x8 = x6
-- OR x7 has the depth 3: x4 and x6 have level 1, x5 and x7 level 2, x8 level 3.
abbrev pub depth : Chain → ℕ
depth c = greatest (λ i. level c (c.n + 1 + i)) (length c.steps)

-- a chain of r steps and at most d levels over the basis agrees with the specification
pub record HasChainOfLevels (s : Specification) (basis : Basis) (r d : ℕ) : Type 0 where
  pub chain : Chain
  pub is_chain : IsChain chain
  pub size : length chain.steps ≡ r
  pub is_over : IsOver basis chain
  pub agrees : Agrees chain s
  pub levels : HasLevels d chain
