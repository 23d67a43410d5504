-- The normal form of chains. Its rules are the symmetry breaking and pruning of searches for least
-- chains (Kojevnikov, Kulikov and Yaroslavtsev, "Finding Efficient Circuits Using SAT-solvers",
-- 2009; Knuth, TAOCP 7.2.2.2, exercise 477; Haaswijk, Soeken, Mishchenko and De Micheli, "SAT-Based
-- Exact Synthesis", 2020), each under the closure property of the basis that it needs.
use Rattle.std.specs.Prelude.{◌≡◌, ℕ, ◌+◌, ◌≤◌, ◌<◌, ◌⊎◌, true, false, not, slice_get, Some}
use Rattle.std.specs.List.{Contains}
use Rattle.chain_theory.specs.Operator.{apply, Basis}
use Rattle.chain_theory.specs.Specification.{Specification}
use Rattle.chain_theory.specs.Chain.{Step, Chain}
use Rattle.chain_theory.specs.Value.{value}
use Rattle.chain_theory.specs.Levels.{HasChainOfLevels}
use Rattle.chain_theory.specs.declared.data.Out.TheVariants.{Place}
use Rattle.op_basis.specs.Closed.{operator_of, swap_closed, const_closed, polarity_closed, reapply_closed}
use Rattle.tt_core.specs.Symmetry.{IsSymmetric}
use Rattle.chain_laws.specs.Keys.{ComesBefore}

-- ---- operators

-- the operator is one of its operands: 0011 or 0101
abbrev pub IsCopy : ℕ → Type 0
IsCopy op = (op ≡ operator_of (λ a b. a)) ⊎ (op ≡ operator_of (λ a b. b))

-- the operator is the complement of one of its operands: 1100 or 1010
abbrev pub IsNegation : ℕ → Type 0
IsNegation op = (op ≡ operator_of (λ a b. not a)) ⊎ (op ≡ operator_of (λ a b. not b))

-- the operator is a constant: 0000 or 1111
abbrev pub IsConstant : ℕ → Type 0
IsConstant op = (op ≡ operator_of (λ a b. false)) ⊎ (op ≡ operator_of (λ a b. true))

-- On equal operands the operator is a copy.
-- Example: x AND x is x.
abbrev pub CopiesBoth : ℕ → Type 0
CopiesBoth op = (apply op false false ≡ false) × (apply op true true ≡ true)

-- On equal operands the operator is a negation.
-- Example: x NAND x is NOT x.
abbrev pub NegatesBoth : ℕ → Type 0
NegatesBoth op = (apply op false false ≡ true) × (apply op true true ≡ false)

-- ---- steps

-- the chain's step of index i; its place is n + 1 + i
abbrev pub IsStep : Chain → ℕ → Step → Type 0
IsStep c i a = slice_get c.steps i ≡ Some a

-- the place is an operand of the step
abbrev pub Reads : Step → ℕ → Type 0
Reads a p = (a.j ≡ p) ⊎ (a.k ≡ p)

-- the place p is an operand of the step, and q isn't
abbrev pub ReadsWithout : Step → ℕ → ℕ → Type 0
ReadsWithout a p q = Reads a p × (Reads a q → ⊥)

-- Re-application: step b reads step a, which is at the place p, and an operand of a.
-- Example: x5 = x4 XOR x2 is a re-application to x4 = x1 AND x2.
abbrev pub IsReapplication : ℕ → Step → Step → Type 0
IsReapplication p a b = ((b.j ≡ p) × Reads a b.k) ⊎ ((b.k ≡ p) × Reads a b.j)

-- some out is the place
abbrev pub IsOut : Chain → ℕ → Type 0
IsOut c p = Contains c.outs (Place p)

-- some step reads the place
abbrev pub IsRead : Chain → ℕ → Type 0
IsRead c p = (i : ℕ) × (a : Step) × IsStep c i a × Reads a p

-- ---- the normal form

-- A chain for the specification is in normal form over a basis where
-- - the first operand isn't greater than the second, if the basis is closed under exchanged operands;
-- - all steps are used: each is an out or is read;
-- - operators are nontrivial: no step is a copy of an operand, and no step is a constant, if constants
--   can be left out;
-- - a step with equal operands isn't a copy, and it is a negation, if constants can be left out;
-- - a negation of an operand has that operand twice;
-- - steps are in co-lexicographic order: no pair of operands comes before that of the preceding step;
-- - there is no re-application, if the basis is closed under re-application;
-- - of two symmetric inputs, the later one is read without the earlier one only after the earlier one
--   was read without the later one;
-- - a step that isn't an out is normal (0 on row 0), if the basis is closed under complements.
-- Example: over all operators, x3 = x1 XOR x2 with the out Place 3 is in normal form for the table
-- 0110, and x3 = x2 XOR x1 isn't.
pub record IsNormalForm (basis : Basis) (s : Specification) (c : Chain) : Type 0 where
  pub operands_rise : swap_closed basis ≡ true → (i : ℕ) (a : Step) → IsStep c i a → a.j ≤ a.k
  pub used : (i : ℕ) (a : Step) → IsStep c i a → IsOut c (c.n + 1 + i) ⊎ IsRead c (c.n + 1 + i)
  pub no_copy : (i : ℕ) (a : Step) → IsStep c i a → IsCopy a.op → ⊥
  pub no_constant : const_closed basis ≡ true → (i : ℕ) (a : Step) → IsStep c i a → IsConstant a.op → ⊥
  pub equal_no_copy : (i : ℕ) (a : Step) → IsStep c i a → a.j ≡ a.k → CopiesBoth a.op → ⊥
  pub equal_negate : const_closed basis ≡ true → (i : ℕ) (a : Step) → IsStep c i a → a.j ≡ a.k → NegatesBoth a.op
  pub negation_of_equal : (i : ℕ) (a : Step) → IsStep c i a → IsNegation a.op → a.j ≡ a.k
  pub in_order : (i : ℕ) (a b : Step) → IsStep c i a → IsStep c (i + 1) b → ComesBefore b a → ⊥
  pub not_again : reapply_closed basis ≡ true → (i k : ℕ) (a b : Step) → i < k → IsStep c i a → IsStep c k b → IsReapplication (c.n + 1 + i) a b → ⊥
  pub earlier_first : (p q : ℕ) → 1 ≤ p → p < q → q ≤ c.n → IsSymmetric s p q → (k : ℕ) (b : Step) → IsStep c k b →
      ReadsWithout b q p → (i : ℕ) × (a : Step) × (i < k) × IsStep c i a × ReadsWithout a p q
  pub zero_on_row_0 : polarity_closed basis ≡ true → (i : ℕ) (a : Step) → IsStep c i a → (value c 0 (c.n + 1 + i) ≡ false) ⊎ IsOut c (c.n + 1 + i)

-- a chain in normal form of r steps and at most d levels over the basis implements the specification
pub record HasNormalFormChain (s : Specification) (basis : Basis) (r d : ℕ) : Type 0 where
  pub has : HasChainOfLevels s basis r d
  pub normal_form : IsNormalForm basis s has.chain
