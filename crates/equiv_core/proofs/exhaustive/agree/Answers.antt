use Rattle.std.proofs.Common.{◌∙◌}
use Rattle.equiv_core.specs.ExhaustiveLaws.{none_at_all}
use Rattle.equiv_core.proofs.exhaustive.agree.Goals as goal

pub returns-clause-same : goal.returns-clause-same
returns-clause-same c = λ yes given.
    none_at_all c.args.first.now c.args.second.now c.deref.result.now (c.deref.ensures.value ∙ c.new-nothing.ensures.items)
    c.requires.comparable (c.in_ok-agree.ensures.none yes) given
