use Rattle.std.proofs.Common.{rules, sym, ◌∙◌}
use Rattle.step_core.specs.PruningLaws.{some_meets}
use Rattle.step_core.proofs.pruning.meets_some.Goals as goal

pub returns-then-meets : goal.returns-then-meets
returns-then-meets c = sym (some_meets c.args.spec.now c.args.word c.loop-output.output (sym c.meets.ensures ∙ c.if-meets.true) (search rules))
