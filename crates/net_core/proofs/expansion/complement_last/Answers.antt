use Rattle.std.proofs.Common.{arith}
use Rattle.net_core.proofs.Wide.{last_complemented-set}
use Rattle.net_core.proofs.expansion.complement_last.Goals as goal

pub returns : goal.returns
returns c = rw c.complemented-gate.ensures (last_complemented-set _ _ _ (grind arith) c.index-gates-at.is)
