-- Which prunings a basis permits, and whether the first solution ends the enumeration.
use Rattle.std.specs.Prelude.{◌≡◌, ℕ, Bool}
use Rattle.op_basis.specs.Basis.{members}
use Rattle.op_basis.specs.Closed.{swap_closed, polarity_closed, const_closed}

-- the results of the tests of a basis
pub record AreRules (basis : ℕ) (orders_operands normal constants : Bool) : Type 0 where
  pub rising : orders_operands ≡ swap_closed (members basis)
  pub having : normal ≡ polarity_closed (members basis)
  pub leaving : constants ≡ const_closed (members basis)

-- the basis as a number, and whether the first solution ends the enumeration
pub record RulesView : Type 0 where
  pub basis : ℕ
  pub whole : Bool
