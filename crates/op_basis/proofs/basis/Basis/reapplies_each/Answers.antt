use Rattle.std.proofs.Common.{sym, arith, rules}
use Rattle.op_basis.specs.Basis.{members}
use Rattle.op_basis.specs.Closed.{reapplies}
use Rattle.op_basis.proofs.Every.{every_fails}
use Rattle.op_basis.proofs.basis.Basis.reapplies_each.Goals as goal

pub returns-then-not-reapplies : goal.returns-then-not-reapplies
returns-then-not-reapplies c = sym (every_fails (reapplies (members c.args.self) c.args.p) c.loop-word.word 16 (search rules) (omega arith))
