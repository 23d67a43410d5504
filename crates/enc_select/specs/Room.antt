-- Bounds of the variables of single operands.
use Rattle.std.specs.Prelude.{ℕ, ◌≤◌}
use Rattle.enc_theory.specs.declared.data.Dimensions.{Dimensions}
use Rattle.enc_theory.specs.Select.{select_vars}
use Rattle.enc_base.specs.Room.{HasRoom}

-- the variables 1 to vars include all variables of the formula
pub record HasChoices (z : Dimensions) (vars : ℕ) : Type 0 where
  pub room : HasRoom z vars
  pub all : select_vars z ≤ vars
