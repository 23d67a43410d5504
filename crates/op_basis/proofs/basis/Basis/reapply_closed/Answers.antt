use Rattle.std.proofs.Common.{sym, arith, rules}
use Rattle.op_basis.specs.Basis.{members}
use Rattle.op_basis.specs.Closed.{reapplies_all}
use Rattle.op_basis.proofs.Every.{every_fails}
use Rattle.op_basis.proofs.basis.Basis.reapply_closed.Goals as goal

pub returns-then-not-reapplies_all : goal.returns-then-not-reapplies_all
returns-then-not-reapplies_all c = sym (every_fails (reapplies_all (members c.args.self)) c.loop-word.word 16 (search rules) (omega arith))
