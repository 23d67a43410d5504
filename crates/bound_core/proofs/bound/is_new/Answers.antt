use Rattle.std.proofs.Common.{rules}
use Rattle.bound_core.proofs.Loops.{new_fails}
use Rattle.bound_core.proofs.bound.is_new.Goals as goal

pub returns-then-is_live : goal.returns-then-is_live
returns-then-is_live c = new_fails c.args.spec.now c.args.before c.loop-earlier.earlier (search rules) (search rules) (search rules)
