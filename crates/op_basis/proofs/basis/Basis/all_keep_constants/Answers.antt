use Rattle.std.proofs.Common.{sym, arith, rules}
use Rattle.op_basis.specs.Basis.{members}
use Rattle.op_basis.specs.Closed.{keeps_constants}
use Rattle.op_basis.proofs.Every.{every_fails}
use Rattle.op_basis.proofs.basis.Basis.all_keep_constants.Goals as goal

pub returns-then-not-keeps_constants : goal.returns-then-not-keeps_constants
returns-then-not-keeps_constants c = sym (every_fails (keeps_constants (members c.args.self)) c.loop-word.word 16 (search rules) (omega arith))
