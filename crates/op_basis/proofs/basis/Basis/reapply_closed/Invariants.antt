use Rattle.std.proofs.Common.{◌≡◌, true}
use Rattle.op_basis.specs.Basis.{members}
use Rattle.op_basis.specs.Closed.{every_below, reapplies_all}
use Rattle.op_basis.proofs.basis.Basis.reapply_closed.Given as goal

abbrev pub invariant-loop-word : goal.invariant-loop-word
invariant-loop-word l = every_below l.word (reapplies_all (members l.self)) ≡ true
