-- Nets that take each other's place.
use Rattle.chain_theory.specs.Operator.{Basis}
use Rattle.net_theory.specs.Net.{Net}
use Rattle.net_theory.specs.Implements.{IsCleanedUp}
use Rattle.net_theory.specs.Operators.{HasOperatorsWithin}

-- m may replace n: it implements every net that n implements after cleanup, and its operators are of the
-- basis or of n.
pub record IsReplacement (basis : Basis) (n m : Net) : Type 0 where
  pub cleaned_up : (first : Net) → IsCleanedUp first n → IsCleanedUp first m
  pub operators : HasOperatorsWithin basis n m
