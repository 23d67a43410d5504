use Rattle.std.proofs.Common.{rules, sym, ◌∙◌}
use Rattle.step_core.specs.PruningLaws.{some_gives}
use Rattle.step_core.proofs.pruning.gives_some.Goals as goal

pub returns-then-gives : goal.returns-then-gives
returns-then-gives c = sym (some_gives c.args.spec.now c.args.stack.now.steps c.args.word c.loop-output.output (sym c.gives.ensures ∙ c.if-gives.true) (search rules))
