use Rattle.std.proofs.Common.{rules, sym, ◌∙◌}
use Rattle.step_core.specs.WaitLaws.{some_has_in_support}
use Rattle.step_core.proofs.waits.is_in_some_support.Goals as goal

pub returns-then-has_in_support : goal.returns-then-has_in_support
returns-then-has_in_support c = sym (some_has_in_support c.args.spec.now c.args.place c.loop-output.output (sym c.has_in_support.ensures ∙ c.if-has_in_support.true) (search rules))
