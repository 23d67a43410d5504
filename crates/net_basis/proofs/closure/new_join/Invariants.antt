use Rattle.std.proofs.Common.{◌≡◌, true}
use Rattle.op_basis.specs.Basis.{members}
use Rattle.op_basis.specs.Closed.{every_below}
use Rattle.net_basis.specs.Joins.{has_all_joined}
use Rattle.net_basis.proofs.closure.new_join.Given as goal

abbrev pub invariant-loop-word : goal.invariant-loop-word
invariant-loop-word l = every_below l.word (has_all_joined (members l.basis) (members l.known)) ≡ true
