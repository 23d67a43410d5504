-- The greater of the lower bound and the cached bound holds.
use Rattle.std.proofs.Common.{sym, subst}
use Rattle.decide_core.specs.Decided.{Fewer}
use Rattle.decide_core.specs.DecidedLaws.{fewer_below}
use Rattle.decide_core.specs.CacheLaws.{fewer_both, found_in_cache}
use Rattle.decide_core.proofs.caching.decide_sizes.Goals as goal

pub returns-then-question-from-clause-sized : goal.returns-then-question-from-clause-sized
returns-then-question-from-clause-sized g c =
    fewer_below c.args.question.header.now c.max-from.result c.if-question-from.true
    (subst (Fewer c.args.question.header.now) (sym c.max-from.ensures)
    (fewer_both c.args.question.header.now c.args.counted c.fewest-known.result c.requires.fewer
    (found_in_cache c.args.question.header.now c.args.cache.now.basis c.fewest-known.result c.in_ok-key.key c.args.question.checked c.requires.basis c.in_ok-key.ensures c.fewest-known.ensures.bound)))

pub returns-then-is_open-clause-sized : goal.returns-then-is_open-clause-sized
returns-then-is_open-clause-sized g c =
    subst (Fewer c.args.question.header.now) (sym c.max-from.ensures)
    (fewer_both c.args.question.header.now c.args.counted c.fewest-known.result c.requires.fewer
    (found_in_cache c.args.question.header.now c.args.cache.now.basis c.fewest-known.result c.in_ok-key.key c.args.question.checked c.requires.basis c.in_ok-key.ensures c.fewest-known.ensures.bound))

pub returns-then-not-searches-clause-sized : goal.returns-then-not-searches-clause-sized
returns-then-not-searches-clause-sized g c =
    subst (Fewer c.args.question.header.now) (sym c.max-from.ensures)
    (fewer_both c.args.question.header.now c.args.counted c.fewest-known.result c.requires.fewer
    (found_in_cache c.args.question.header.now c.args.cache.now.basis c.fewest-known.result c.in_ok-key.key c.args.question.checked c.requires.basis c.in_ok-key.ensures c.fewest-known.ensures.bound))

pub search_new-requires-clause-fewer : goal.search_new-requires-clause-fewer
search_new-requires-clause-fewer g c =
    subst (Fewer c.args.question.header.now) (sym c.max-from.ensures)
    (fewer_both c.args.question.header.now c.args.counted c.fewest-known.result c.requires.fewer
    (found_in_cache c.args.question.header.now c.args.cache.now.basis c.fewest-known.result c.in_ok-key.key c.args.question.checked c.requires.basis c.in_ok-key.ensures c.fewest-known.ensures.bound))
