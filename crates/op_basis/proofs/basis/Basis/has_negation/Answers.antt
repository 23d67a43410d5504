use Rattle.std.proofs.Common.{refl, arith, rules}
use Rattle.op_basis.specs.Basis.{members}
use Rattle.op_basis.specs.Closed.{has_no_negation_at}
use Rattle.op_basis.proofs.Every.{every_fails}
use Rattle.op_basis.proofs.basis.Basis.has_negation.Goals as goal

pub returns-then-not-has_no_negation_at : goal.returns-then-not-has_no_negation_at
returns-then-not-has_no_negation_at c = rw (every_fails (has_no_negation_at (members c.args.self)) c.loop-word.word 16 (search rules) (omega arith)) refl
