-- The conditions on a candidate before it is compared.
use Rattle.std.specs.Prelude.{◌≡◌, ◌≤◌, length}
use Rattle.chain_theory.specs.Operator.{Basis}
use Rattle.net_theory.specs.Net.{Net}
use Rattle.equiv_core.specs.Limits.{AreSmall}
use Rattle.net_theory.specs.Operators.{HasOperatorsWithin}

-- equally many sources, no more gates, operators of the basis or of the net, and both small enough to be compared
pub record IsFit (basis : Basis) (n m : Net) : Type 0 where
  pub sources : m.sources ≡ n.sources
  pub fewer : length m.gates ≤ length n.gates
  pub small : AreSmall n m
  pub operators : HasOperatorsWithin basis n m
