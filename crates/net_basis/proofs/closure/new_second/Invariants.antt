use Rattle.std.proofs.Common.{◌≡◌, true}
use Rattle.op_basis.specs.Basis.{members}
use Rattle.op_basis.specs.Closed.{every_below}
use Rattle.net_basis.specs.Joins.{has_joined}
use Rattle.net_basis.proofs.closure.new_second.Given as goal

abbrev pub invariant-loop-word : goal.invariant-loop-word
invariant-loop-word l = every_below l.word (has_joined (members l.known) l.op l.first) ≡ true
