use Rattle.std.proofs.Common.{◌∙◌, sym, arith}
use Rattle.chain_theory.proofs.PlainLevels.{level_in-none, level_in-last, level_in-before}
use Rattle.chain_theory.proofs.plain.+place_level.Goals as goal

pub returns-in_default-clause-level : goal.returns-in_default-clause-level
returns-in_default-clause-level t c = sym (level_in-none c.args.n c.args.place c.args.steps.now c.in_default.ensures.cases)

pub returns-then-place-n-clause-level : goal.returns-then-place-n-clause-level
returns-then-place-n-clause-level t c =
    omega (arith, c.max.ensures, c.place_level-a.ensures.level, c.place_level-b.ensures.level)
    ∙ sym (level_in-last c.args.n c.args.place c.args.steps.now c.in-Some.before.now c.in-Some.last.now c.in-Some.ensures.cases.0 c.if-place-n.true)

pub returns-else-place-n-clause-level : goal.returns-else-place-n-clause-level
returns-else-place-n-clause-level t c =
    c.place_level.ensures.level
    ∙ sym (level_in-before c.args.n c.args.place c.args.steps.now c.in-Some.before.now c.in-Some.last.now c.in-Some.ensures.cases.0 c.if-place-n.false)
