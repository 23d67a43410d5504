use Rattle.std.proofs.Common.{◌≡◌, true}
use Rattle.op_basis.specs.Basis.{members}
use Rattle.op_basis.specs.Closed.{every_below, has_no_negation_at}
use Rattle.op_basis.proofs.basis.Basis.has_negation.Given as goal

abbrev pub invariant-loop-word : goal.invariant-loop-word
invariant-loop-word l = every_below l.word (has_no_negation_at (members l.self)) ≡ true
