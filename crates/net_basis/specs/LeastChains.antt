-- Least chains for an operator, and the search for them.
use Rattle.std.specs.Prelude.{◌≡◌, ℕ, ◌/◌, ◌%◌, ◌≤◌, Bool, true, not, ◌&&◌, List, length}
use Rattle.chain_theory.specs.Operator.{Basis}
use Rattle.net_basis.specs.declared.join.Join.{Join}
use Rattle.net_basis.specs.Joins.{function_of, operands, may_join, makes}

-- The steps make the function, and no fewer steps over the basis do.
pub record IsLeastChain (basis : Basis) (word : ℕ) (joins : List Join) : Type 0 where
  pub made : makes basis operands joins word ≡ true
  pub least : (others : List Join) → makes basis operands others word ≡ true → length joins ≤ length others

-- ---- the search

-- After what is known, these few steps make the function.
pub record IsChainWithin (basis : Basis) (known : ℕ → Bool) (word most : ℕ) (joins : List Join) : Type 0 where
  pub made : makes basis known joins word ≡ true
  pub few : length joins ≤ most

-- and so few steps don't
pub record IsOutOfReach (basis : Basis) (known : ℕ → Bool) (word most : ℕ) : Type 0 where
  pub none : (joins : List Join) → makes basis known joins word ≡ true → length joins ≤ most → ⊥

-- the step of a number below 4096, whose digits in base 16 are the operator and the functions that it reads
abbrev pub join_at : ℕ → Join
join_at c = record { op = c / 256; first = c / 16 % 16; second = c % 16 }

-- the step may be one, and its function wasn't tried
abbrev pub is_untried : Basis → (ℕ → Bool) → (ℕ → Bool) → Join → Bool
is_untried basis known tried j = may_join basis known j && not (tried (function_of j))
