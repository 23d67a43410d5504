-- Which operators the gates of a net have.
use Rattle.std.specs.Prelude.{◌≡◌, ℕ, true, slice_get, Some, ◌⊎◌}
use Rattle.chain_theory.specs.Operator.{Basis}
use Rattle.net_theory.specs.declared.data.Gate.{Gate}
use Rattle.net_theory.specs.Net.{Net}

-- some gate of the net has the operator
pub record HasOperator (n : Net) (op : ℕ) : Type 0 where
  pub index : ℕ
  pub gate : Gate
  pub at : slice_get n.gates index ≡ Some gate
  pub same : gate.op ≡ op

-- each operator of m is in the basis or is the operator of a gate of n
pub record HasOperatorsWithin (basis : Basis) (n m : Net) : Type 0 where
  pub each : (i : ℕ) (g : Gate) → slice_get m.gates i ≡ Some g → (basis g.op ≡ true) ⊎ HasOperator n g.op
