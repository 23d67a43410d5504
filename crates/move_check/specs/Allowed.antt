-- The operators that the gates of a candidate may have.
use Rattle.std.specs.Prelude.{◌≡◌, true, List, All, ◌⊎◌}
use Rattle.chain_theory.specs.Operator.{Basis}
use Rattle.net_theory.specs.declared.data.Gate.{Gate}
use Rattle.net_theory.specs.Net.{Net}
use Rattle.net_theory.specs.Operators.{HasOperator}

-- each of the gates has an operator of the basis or of the net
abbrev pub AreAllowed : Basis → Net → List Gate → Type 0
AreAllowed basis n gates = All (λ g. (basis g.op ≡ true) ⊎ HasOperator n g.op) gates
