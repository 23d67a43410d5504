use Rattle.std.proofs.Common.{sym, ◌∙◌, arith}
use Rattle.step_core.specs.NormalSolutionLaws.{met_at}
use Rattle.step_core.proofs.words.is_met.Goals as goal

pub returns-then-meets_at : goal.returns-then-meets_at
returns-then-meets_at c = sym (met_at c.args.spec.now c.args.stack.now.steps c.args.output c.loop-index.index
    (omega (arith, c.loop-index-test.true, c.len-index-end.ensures.count)) (sym c.meets_at.ensures
    ∙ c.if-meets_at.true))
