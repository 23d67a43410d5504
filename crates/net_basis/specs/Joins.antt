-- Chains for an operator, by the functions of their steps: each function of the operands a and b is an operator.
use Rattle.std.specs.Prelude.{◌≡◌, ℕ, ◌==◌, Bool, true, false, not, ◌&&◌, ◌||◌, List, [], ◌∷◌}
use Rattle.chain_theory.specs.Operator.{apply, Basis}
use Rattle.chain_theory.specs.Value.{extended}
use Rattle.op_basis.specs.Closed.{operator_of, every, implies}
use Rattle.net_basis.specs.declared.join.Join.{Join}

-- the operator p of the functions u and v, as a function of a and b
-- Example: joined 1 3 10 is 2, since AND of a and of not b is a and not b.
unfoldable pub joined : ℕ → ℕ → ℕ → ℕ
joined p u v = operator_of (λ a b. apply p (apply u a b) (apply v a b))

abbrev pub function_of : Join → ℕ
function_of j = joined j.op j.first j.second

-- Whether a function needs no gate: the operands a and b, which are 3 and 5, and the constants 0 and 15.
abbrev pub operands : ℕ → Bool
operands w = w == 3 || w == 5 || w == 0 || w == 15

-- a step's operator is in the basis, and the functions that it reads are known
abbrev pub may_join : Basis → (ℕ → Bool) → Join → Bool
may_join basis known j = basis j.op && known j.first && known j.second

-- The steps are over the basis, each reads functions that are known by then, and in the end the function w is known.
unfoldable pub makes : Basis → (ℕ → Bool) → List Join → ℕ → Bool
makes basis known [] w = known w
makes basis known (j ∷ js) w = may_join basis known j && makes basis (extended known (function_of j) true) js w

-- ---- closed sets

-- with u and v, the operator p of u and v is known, too
unfoldable pub has_joined : (ℕ → Bool) → ℕ → ℕ → ℕ → Bool
has_joined known p u v = implies (known u && known v) (known (joined p u v))

unfoldable pub has_joined_on : (ℕ → Bool) → ℕ → ℕ → Bool
has_joined_on known p u = every (has_joined known p u)

unfoldable pub has_all_joined : Basis → (ℕ → Bool) → ℕ → Bool
has_all_joined basis known p = implies (basis p) (every (has_joined_on known p))

-- The set of known functions is closed under the operators of the basis.
abbrev pub is_closed : Basis → (ℕ → Bool) → Bool
is_closed basis known = every (has_all_joined basis known)

-- the step may be one, and makes a function that isn't known
abbrev pub is_new : Basis → (ℕ → Bool) → Join → Bool
is_new basis known j = may_join basis known j && not (known (function_of j))

-- the step makes a function that isn't known yet
pub record IsNewJoin (basis : Basis) (known : ℕ → Bool) (j : Join) : Type 0 where
  pub may : may_join basis known j ≡ true
  pub new : known (function_of j) ≡ false
