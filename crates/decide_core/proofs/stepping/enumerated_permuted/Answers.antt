-- If no chain implements the permuted tables, none implements the original ones; and a chain is permuted back.
use Rattle.std.proofs.Common.{ℕ, List, sym, subst}
use Rattle.spec_cache.specs.Order.{IsOrder}
use Rattle.decide_core.specs.Ordered.{IsPermutedTo}
use Rattle.decide_core.specs.OrderedLaws.{permuted_to, permuted_from, least_permuted, chain_ordered}
use Rattle.decide_core.specs.StepLaws.{none_known, some_known}
use Rattle.decide_core.proofs.stepping.enumerated_permuted.Goals as goal

pub returns-in-None-clause-decided : goal.returns-in-None-clause-decided
returns-in-None-clause-decided c =
    least_permuted c.args.question.header.now c.in_ok-permuted.permuted c.args.order.now
    (permuted_to c.args.question.header.now c.in_ok-permuted.permuted c.args.order.now c.requires.order c.in_ok-permuted.ensures.permuted c.in_ok-permuted.ensures.basis c.in_ok-permuted.ensures.max)
    (none_known _ c.in_ok-permuted.permuted c.in_ok-known_steps.field-0 c.new.ensures c.in-None.is c.in_ok-known_steps.ensures.none)

pub reordered-requires : goal.reordered-requires
reordered-requires c =
    subst (λ (order : List ℕ). IsOrder c.in-Some.chain.n order) (sym c.deref.ensures.value)
    (chain_ordered c.in_ok-permuted.permuted c.args.question.header.now c.in_ok-back.back.items c.in-Some.chain
    (permuted_from c.args.question.header.now c.in_ok-permuted.permuted c.args.order.now c.in_ok-back.back.items
    c.requires.order c.in_ok-back.ensures.order c.in_ok-back.ensures.back c.in_ok-permuted.ensures.permuted
    c.in_ok-permuted.ensures.basis c.in_ok-permuted.ensures.max)
    (some_known _ c.in_ok-permuted.permuted c.in_ok-known_steps.field-0 c.in-Some.chain c.new.ensures c.in-Some.is c.in_ok-known_steps.ensures.some))

pub returns-clause-decided : goal.returns-clause-decided
returns-clause-decided c =
    c.in_ok-reordered-in-Some.ensures c.in_ok-permuted.permuted c.args.question.header.now
    (subst (λ (order : List ℕ). IsPermutedTo c.in_ok-permuted.permuted c.args.question.header.now order) (sym c.deref.ensures.value)
    (permuted_from c.args.question.header.now c.in_ok-permuted.permuted c.args.order.now c.in_ok-back.back.items
    c.requires.order c.in_ok-back.ensures.order c.in_ok-back.ensures.back c.in_ok-permuted.ensures.permuted
    c.in_ok-permuted.ensures.basis c.in_ok-permuted.ensures.max))
    (some_known _ c.in_ok-permuted.permuted c.in_ok-known_steps.field-0 c.in-Some.chain c.new.ensures c.in-Some.is c.in_ok-known_steps.ensures.some)
