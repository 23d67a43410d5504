use Rattle.std.proofs.Common.{rules}
use Rattle.synth_core.proofs.Used.{used_at}
use Rattle.synth_core.proofs.counting.is_used.Goals as goal

pub returns-then-uses : goal.returns-then-uses
returns-then-uses c = used_at c.args.spec.now c.args.before c.loop-output.output (search rules) (search rules)
