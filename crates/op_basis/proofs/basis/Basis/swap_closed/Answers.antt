use Rattle.std.proofs.Common.{sym, arith, rules}
use Rattle.op_basis.specs.Basis.{members}
use Rattle.op_basis.specs.Closed.{swaps}
use Rattle.op_basis.proofs.Every.{every_fails}
use Rattle.op_basis.proofs.basis.Basis.swap_closed.Goals as goal

pub returns-then-not-swaps : goal.returns-then-not-swaps
returns-then-not-swaps c = sym (every_fails (swaps (members c.args.self)) c.loop-word.word 16 (search rules) (omega arith))
