-- The lower bound holds for the permuted tables too; and if no chain implements these, none implements the
-- original ones.
use Rattle.std.proofs.Common.{ℕ, List, sym, subst}
use Rattle.cert_theory.specs.declared.data.Header.{Header}
use Rattle.spec_cache.specs.Order.{IsOrder}
use Rattle.decide_core.specs.Decided.{Fewer, IsSized}
use Rattle.decide_core.specs.Ordered.{IsPermutedTo}
use Rattle.decide_core.specs.CacheLaws.{found_none, found_shorter}
use Rattle.decide_core.specs.OrderedLaws.{permuted_to, permuted_from, fewer_permuted, least_permuted, chain_ordered}
use Rattle.decide_core.proofs.ordering.decide_permuted.Goals as goal

pub decide_sizes-requires-clause-fewer : goal.decide_sizes-requires-clause-fewer
decide_sizes-requires-clause-fewer g c =
    subst (λ (h : Header). Fewer h c.args.counted) (sym c.new-asked.ensures)
    (fewer_permuted c.in_ok-permuted.permuted c.args.question.header.now c.in_ok-back.back.items c.args.counted
    (permuted_from c.args.question.header.now c.in_ok-permuted.permuted c.args.order.now c.in_ok-back.back.items
    c.requires.order c.in_ok-back.ensures.order c.in_ok-back.ensures.back c.in_ok-permuted.ensures.permuted
    c.in_ok-permuted.ensures.basis c.in_ok-permuted.ensures.max)
    c.requires.fewer)

pub returns-in-Nothing-clause-decided : goal.returns-in-Nothing-clause-decided
returns-in-Nothing-clause-decided g c =
    least_permuted c.args.question.header.now c.in_ok-permuted.permuted c.args.order.now
    (permuted_to c.args.question.header.now c.in_ok-permuted.permuted c.args.order.now c.requires.order c.in_ok-permuted.ensures.permuted c.in_ok-permuted.ensures.basis c.in_ok-permuted.ensures.max)
    (found_none c.in_ok-permuted.permuted c.in_ok-decide_sizes.field-0
    (subst (λ (h : Header). IsSized h c.in_ok-decide_sizes.field-0) c.new-asked.ensures c.in_ok-decide_sizes.ensures.sized)
    c.in-Nothing.is)

pub search_open-requires-clause-permuted : goal.search_open-requires-clause-permuted
search_open-requires-clause-permuted g c =
    subst (λ (h : Header). IsPermutedTo c.args.question.header.now h c.args.order.now) (sym c.new-asked.ensures)
    (permuted_to c.args.question.header.now c.in_ok-permuted.permuted c.args.order.now c.requires.order c.in_ok-permuted.ensures.permuted c.in_ok-permuted.ensures.basis c.in_ok-permuted.ensures.max)

pub search_open-requires-clause-fewer : goal.search_open-requires-clause-fewer
search_open-requires-clause-fewer g c = λ size none.
    subst (λ (h : Header). Fewer h size) (sym c.new-asked.ensures)
    (fewer_permuted c.in_ok-permuted.permuted c.args.question.header.now c.in_ok-back.back.items size
    (permuted_from c.args.question.header.now c.in_ok-permuted.permuted c.args.order.now c.in_ok-back.back.items
    c.requires.order c.in_ok-back.ensures.order c.in_ok-back.ensures.back c.in_ok-permuted.ensures.permuted
    c.in_ok-permuted.ensures.basis c.in_ok-permuted.ensures.max)
    none)

pub reordered-requires : goal.reordered-requires
reordered-requires g c =
    subst (λ (order : List ℕ). IsOrder c.in-Found.chain.n order) (sym c.deref.ensures.value)
    (chain_ordered c.in_ok-permuted.permuted c.args.question.header.now c.in_ok-back.back.items c.in-Found.chain
    (permuted_from c.args.question.header.now c.in_ok-permuted.permuted c.args.order.now c.in_ok-back.back.items
    c.requires.order c.in_ok-back.ensures.order c.in_ok-back.ensures.back c.in_ok-permuted.ensures.permuted
    c.in_ok-permuted.ensures.basis c.in_ok-permuted.ensures.max)
    (found_shorter c.in_ok-permuted.permuted c.in_ok-decide_sizes.field-0 c.in-Found.chain c.in-Found.low
    (subst (λ (h : Header). IsSized h c.in_ok-decide_sizes.field-0) c.new-asked.ensures c.in_ok-decide_sizes.ensures.sized)
    c.in-Found.is))

pub returns-clause-decided : goal.returns-clause-decided
returns-clause-decided g c =
    c.in_ok-reordered-in-Found.ensures c.in_ok-permuted.permuted c.args.question.header.now
    (subst (λ (order : List ℕ). IsPermutedTo c.in_ok-permuted.permuted c.args.question.header.now order) (sym c.deref.ensures.value)
    (permuted_from c.args.question.header.now c.in_ok-permuted.permuted c.args.order.now c.in_ok-back.back.items
    c.requires.order c.in_ok-back.ensures.order c.in_ok-back.ensures.back c.in_ok-permuted.ensures.permuted
    c.in_ok-permuted.ensures.basis c.in_ok-permuted.ensures.max))
    (found_shorter c.in_ok-permuted.permuted c.in_ok-decide_sizes.field-0 c.in-Found.chain c.in-Found.low
    (subst (λ (h : Header). IsSized h c.in_ok-decide_sizes.field-0) c.new-asked.ensures c.in_ok-decide_sizes.ensures.sized)
    c.in-Found.is)
