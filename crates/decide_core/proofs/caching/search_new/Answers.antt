-- The entry is the result of the search.
use Rattle.std.specs.Prelude.{◌+◌}
use Rattle.decide_core.specs.CacheLaws.{noted, found_none, found_low, found_open}
use Rattle.decide_core.proofs.caching.search_new.Goals as goal

pub note-requires : goal.note-requires
note-requires g c =
    rw c.without_chain.ensures
    (noted c.args.question.header.now c.args.cache.now.basis c.in-Open.low c.args.key c.args.question.checked c.requires.basis c.requires.key
    (found_open c.args.question.header.now c.in_ok-low.field-0 c.in-Open.low c.in_ok-low.ensures c.in-Open.is))

pub note-requires-in-Nothing : goal.note-requires-in-Nothing
note-requires-in-Nothing g c =
    rw c.without_chain-in-Nothing.ensures
    (noted c.args.question.header.now c.args.cache.now.basis (c.args.question.header.now.max + 1) c.args.key c.args.question.checked c.requires.basis c.requires.key
    (found_none c.args.question.header.now c.in_ok-low.field-0 c.in_ok-low.ensures c.in-Nothing.is))

pub note-requires-in-Found : goal.note-requires-in-Found
note-requires-in-Found g c =
    rw c.with_chain-found.ensures
    (noted c.args.question.header.now c.args.cache.now.basis c.in-Found.low c.args.key c.args.question.checked c.requires.basis c.requires.key
    (found_low c.args.question.header.now c.in_ok-low.field-0 c.in-Found.chain c.in-Found.low c.in_ok-low.ensures c.in-Found.is))
