use Rattle.std.proofs.Common.{rules, sym, ◌∙◌}
use Rattle.step_core.specs.NormalSolutionLaws.{missing_at}
use Rattle.step_core.proofs.words.all_met.Goals as goal

pub returns-then-not-is_met : goal.returns-then-not-is_met
returns-then-not-is_met c = sym (missing_at c.args.spec.now c.args.stack.now.steps c.loop-output.output (search rules) (sym c.is_met.ensures ∙ c.if-not-is_met.true))
