use Rattle.std.proofs.Common.{sym, ◌∙◌}
use Rattle.step_core.specs.PruningLaws.{incompatible_fails}
use Rattle.step_core.proofs.pruning.is_incompatible.Goals as goal

pub returns-then-are_compatible : goal.returns-then-are_compatible
returns-then-are_compatible c = sym (incompatible_fails c.args.spec.now c.args.output c.loop-before.before (sym c.are_compatible.ensures ∙ c.if-are_compatible.true) c.loop-before-test.true)
