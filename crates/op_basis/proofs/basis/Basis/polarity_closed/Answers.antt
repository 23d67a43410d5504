use Rattle.std.proofs.Common.{sym, arith, rules}
use Rattle.op_basis.specs.Basis.{members}
use Rattle.op_basis.specs.Closed.{has_complements}
use Rattle.op_basis.proofs.Every.{every_fails}
use Rattle.op_basis.proofs.basis.Basis.polarity_closed.Goals as goal

pub returns-then-not-has_complements : goal.returns-then-not-has_complements
returns-then-not-has_complements c = sym (every_fails (has_complements (members c.args.self)) c.loop-word.word 16 (search rules) (omega arith))
