use Rattle.std.proofs.Common.{◌∙◌, sym}
use Rattle.chain_theory.proofs.PlainValues.{values_on-none, values_on-last, values_on-before}
use Rattle.chain_theory.proofs.plain.+place_value.Goals as goal

pub returns-in_default : goal.returns-in_default
returns-in_default t c = c.input.ensures ∙ sym (values_on-none c.args.n c.args.t c.args.place c.args.steps.now c.in_default.ensures.cases)

pub returns-then-place-n : goal.returns-then-place-n
returns-then-place-n t c =
    (rw (c.place_value-a.ensures, c.place_value-b.ensures) at c.apply.ensures)
    ∙ sym (values_on-last c.args.n c.args.t c.args.place c.args.steps.now c.in-Some.before.now c.in-Some.last.now c.in-Some.ensures.cases.0 c.if-place-n.true)

pub returns-else-place-n : goal.returns-else-place-n
returns-else-place-n t c =
    c.place_value.ensures
    ∙ sym (values_on-before c.args.n c.args.t c.args.place c.args.steps.now c.in-Some.before.now c.in-Some.last.now c.in-Some.ensures.cases.0 c.if-place-n.false)
