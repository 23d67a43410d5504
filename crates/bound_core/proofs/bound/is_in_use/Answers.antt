use Rattle.std.proofs.Common.{rules}
use Rattle.bound_core.proofs.Loops.{in_use_at}
use Rattle.bound_core.proofs.bound.is_in_use.Goals as goal

pub returns-then-is_live : goal.returns-then-is_live
returns-then-is_live c = in_use_at c.args.spec.now c.args.before c.loop-output.output (search rules) (search rules) (search rules)
