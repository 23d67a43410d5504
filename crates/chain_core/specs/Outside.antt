-- The first step of a chain whose operator is outside a basis.
use Rattle.std.specs.Prelude.{◌≡◌, ℕ, ◌+◌, true, false, if◌then◌else◌, List, [], ◌∷◌, ◌++◌, length, Option, Some, None}
use Rattle.std.specs.Prelude.{All}
use Rattle.chain_theory.specs.Operator.{Basis}
use Rattle.chain_theory.specs.Chain.{Step, Chain}
use Rattle.chain_theory.specs.Agreement.{IsOver}

-- The step at the place has an operator outside the basis, and no step before it has one.
-- Example: over the basis of XOR alone the first such step of the full adder is x5, an AND.
pub record IsFirstOutside (basis : Basis) (c : Chain) (place : ℕ) : Type 0 where
  pub prefix : List Step
  pub step : Step
  pub following : List Step
  pub steps : c.steps ≡ prefix ++ step ∷ following
  pub place_is : place ≡ c.n + 1 + length prefix
  pub inside : All (λ (s : Step). basis s.op ≡ true) prefix
  pub outside : basis step.op ≡ false

-- None: the chain is over the basis; Some: the place of the first step outside it
abbrev pub IsBasisCheck : Basis → Chain → Option ℕ → Type 0
IsBasisCheck basis c None = IsOver basis c
IsBasisCheck basis c (Some place) = IsFirstOutside basis c place

-- the first place outside the basis, among steps of which the first is at the given place
unfoldable pub outside_from : Basis → ℕ → List Step → Option ℕ
outside_from basis place [] = None
outside_from basis place (s ∷ ss) = if basis s.op then outside_from basis (place + 1) ss else Some place
