use Rattle.std.proofs.Common.{◌∙◌}
use Rattle.equiv_core.specs.ExhaustiveLaws.{none_under_both}
use Rattle.equiv_core.proofs.exhaustive.+agree_under.Goals as goal

pub returns-clause-none : goal.returns-clause-none
returns-clause-none t c = λ yes.
    none_under_both c.args.first.now c.args.second.now c.args.bits.now c.deref.result.now c.deref-2.result.now
    (c.deref.ensures.value ∙ c.in_ok-low.ensures) (c.deref-2.ensures.value ∙ c.in_ok-high.ensures)
    (c.in_ok-agree_under.ensures.none c.if-not-branch.false) (c.in_ok-agree.ensures.none yes)
