-- The cached result, and the stored result of an enumeration.
use Rattle.std.specs.Prelude.{◌+◌, length}
use Rattle.decide_core.specs.DecidedLaws.{fewer_below}
use Rattle.decide_core.specs.CacheLaws.{noted, found_in_cache}
use Rattle.decide_core.specs.StepLaws.{step_none, step_least}
use Rattle.decide_core.proofs.stepping.known_steps.Goals as goal

pub returns-then-header-known-clause-none : goal.returns-then-header-known-clause-none
returns-then-header-known-clause-none c =
    fewer_below c.args.question.header.now c.fewest-known.result c.if-header-known.true
    (found_in_cache c.args.question.header.now c.args.cache.now.basis c.fewest-known.result c.in_ok-key.key c.args.question.checked c.requires.basis c.in_ok-key.ensures c.fewest-known.ensures.bound)

pub note-requires : goal.note-requires
note-requires c =
    rw c.without_chain.ensures
    (noted c.args.question.header.now c.args.cache.now.basis (c.args.question.header.now.max + 1) c.in_ok-key.key c.args.question.checked c.requires.basis c.in_ok-key.ensures
    (step_none c.args.question.header.now c.in_ok-least_chain.field-0 c.in_ok-least_chain.ensures c.in-None.is))

pub note-requires-in-Some-2 : goal.note-requires-in-Some-2
note-requires-in-Some-2 c =
    rw c.with_chain-found.ensures
    (rw c.size_of.ensures
    (noted c.args.question.header.now c.args.cache.now.basis (length c.in-Some-2.chain.steps) c.in_ok-key.key c.args.question.checked c.requires.basis c.in_ok-key.ensures
    (step_least c.args.question.header.now c.in_ok-least_chain.field-0 c.in-Some-2.chain c.in_ok-least_chain.ensures c.in-Some-2.is)))
