use Rattle.std.proofs.Common.{◌≡◌, true}
use Rattle.op_basis.specs.Basis.{members}
use Rattle.op_basis.specs.Closed.{every_below, keeps_constants}
use Rattle.op_basis.proofs.basis.Basis.all_keep_constants.Given as goal

abbrev pub invariant-loop-word : goal.invariant-loop-word
invariant-loop-word l = every_below l.word (keeps_constants (members l.self)) ≡ true
