-- The result for the original tables is stored for the permuted ones.
use Rattle.std.specs.Prelude.{◌+◌}
use Rattle.decide_core.specs.CacheLaws.{noted, whole_least, whole_shorter, whole_fewest}
use Rattle.decide_core.specs.OrderedLaws.{chain_ordered, least_carried}
use Rattle.decide_core.proofs.ordering.search_open.Goals as goal

pub note-requires : goal.note-requires
note-requires g c =
    rw c.without_chain.ensures
    (noted c.args.permuted.header.now c.args.cache.now.basis (c.args.permuted.header.now.max + 1) c.in_ok-key.key c.args.permuted.checked c.requires.basis c.in_ok-key.ensures
    (least_carried c.args.question.header.now c.args.permuted.header.now c.args.order.now c.requires.permuted c.requires.fewer
    (whole_least c.args.question.header.now c.in_ok-search_whole.field-0 c.in_ok-search_whole.ensures c.in-Nothing.is)))

pub reordered-requires : goal.reordered-requires
reordered-requires g c =
    chain_ordered c.args.question.header.now c.args.permuted.header.now c.args.order.now c.in-Found.chain c.requires.permuted
    (whole_shorter c.args.question.header.now c.in_ok-search_whole.field-0 c.in-Found.chain c.in-Found.fewest c.in_ok-search_whole.ensures c.in-Found.is)

pub note-requires-in-Found : goal.note-requires-in-Found
note-requires-in-Found g c =
    rw c.with_chain-found.ensures
    (noted c.args.permuted.header.now c.args.cache.now.basis c.in-Found.fewest c.in_ok-key.key c.args.permuted.checked c.requires.basis c.in_ok-key.ensures
    (c.requires.fewer c.in-Found.fewest
    (whole_fewest c.args.question.header.now c.in_ok-search_whole.field-0 c.in-Found.chain c.in-Found.fewest c.in_ok-search_whole.ensures c.in-Found.is)))
