-- No step, one step whose function is out of reach or in reach, and all steps.
use Rattle.std.proofs.Common.{◌∙◌, ◌-◌, ℕ, true, ap, sym, arith}
use Rattle.chain_theory.specs.Value.{extended}
use Rattle.op_basis.specs.Basis.{members}
use Rattle.net_basis.specs.LeastChains.{IsChainWithin, IsOutOfReach}
use Rattle.net_basis.proofs.Sets.{member_low}
use Rattle.net_basis.proofs.ShortestChains.{chain_none, chain_more, reach_none, reach_all, tried_new, tried_old}
use Rattle.net_basis.proofs.least.+chain_within.Goals as goal

pub returns-then-contains-clause-some : goal.returns-then-contains-clause-some
returns-then-contains-clause-some t c =
    chain_none (members c.args.basis) (members c.args.known) c.args.function c.args.most _
    (sym c.contains.ensures ∙ c.if-contains.true) c.new.ensures.items

pub returns-then-most-eq0-clause-none : goal.returns-then-most-eq0-clause-none
returns-then-most-eq0-clause-none t c =
    reach_none (members c.args.basis) (members c.args.known) c.args.function c.args.most
    (sym c.contains.ensures ∙ c.if-contains.false) c.if-most-eq0.true

pub loop-code-preserved-then-not-is_untried : goal.loop-code-preserved-then-not-is_untried
loop-code-preserved-then-not-is_untried t c =
    tried_old (members c.args.basis) (members c.args.known) (members c.loop-code.tried) c.args.function (c.args.most - 1)
    c.loop-code.code c.join_of-join.result c.loop-code.invariant c.join_of-join.ensures
    (sym c.is_untried.ensures ∙ c.if-not-is_untried.true)

pub returns-in-Some-clause-some : goal.returns-in-Some-clause-some
returns-in-Some-clause-some t c =
    let found : IsChainWithin (members c.args.basis) (members c.with_function-next.result) c.args.function
    (c.args.most - 1) c.in-Some.rest.items = rw c.in-Some.is at c.in_ok-rest.ensures.some in
    chain_more (members c.args.basis) (members c.args.known) (members c.with_function-next.result) c.args.function
    (c.args.most - 1) c.args.most c.join_of-join.result c.leaner.result c.in-Some.rest.items _ c.leaner.ensures.may
    c.leaner.ensures.same
    (c.with_function-next.ensures.members
    ∙ ap (λ (f : ℕ). extended (members c.args.known) f true) c.function_of-made.ensures)
    found c.in_ok-with_first.ensures (omega (arith, c.if-most-eq0.false))

pub loop-code-preserved : goal.loop-code-preserved
loop-code-preserved t c =
    let out : IsOutOfReach (members c.args.basis) (members c.with_function-next.result) c.args.function
    (c.args.most - 1) = rw c.in_default.is at c.in_ok-rest.ensures.none in
    tried_new (members c.args.basis) (members c.args.known) (members c.loop-code.tried)
    (members c.with_function-next.result) (members c.with_function-tried.result) c.args.function (c.args.most - 1)
    c.loop-code.code c.join_of-join.result c.loop-code.invariant c.join_of-join.ensures
    (c.with_function-next.ensures.members
    ∙ ap (λ (f : ℕ). extended (members c.args.known) f true) c.function_of-made.ensures)
    out
    (c.with_function-tried.ensures.members
    ∙ ap (λ (f : ℕ). extended (members c.loop-code.tried) f true) c.function_of-made.ensures)

pub returns-clause-none : goal.returns-clause-none
returns-clause-none t c =
    reach_all (members c.args.basis) (members c.args.known) (members c.loop-code.tried) c.args.function
    (c.args.most - 1) c.args.most c.loop-code.code (sym c.contains.ensures ∙ c.if-contains.false) c.loop-code.invariant
    (omega (arith, c.loop-code-test.false)) (omega (arith, c.if-most-eq0.false))
    (λ p is. member_low c.args.basis p (omega (arith, c.get-members.ensures.bits, c.get-members.ensures.below)) is)
    (λ p is. member_low c.args.known p (omega (arith, c.get-known.ensures.bits, c.get-known.ensures.below)) is)
