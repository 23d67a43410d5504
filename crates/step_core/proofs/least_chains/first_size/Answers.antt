-- Without a solution of the sizes so far, no chain of so few steps implements the specification.
use Rattle.std.proofs.Common.{◌≡◌, ◌+◌, ◌≤◌, length, arith, subst}
use Rattle.chain_theory.specs.Agreement.{NoneBelow}
use Rattle.op_basis.specs.Basis.{members}
use Rattle.tt_core.specs.Words.{Words, specification}
use Rattle.step_core.specs.LeastChains.{IsChainWithin}
use Rattle.step_core.specs.Steps.{IsSolution}
use Rattle.step_core.specs.LeastChainLaws.{are_met, clear_whole, fitting_least}
use Rattle.step_core.proofs.least_chains.first_size.Goals as goal

pub chain_of-requires-clause-met : goal.chain_of-requires-clause-met
chain_of-requires-clause-met c =
    let solution : IsSolution c.args.live.now (members c.args.basis) c.in-Some.stack.steps = rw c.in-Some.is at c.in_ok-stack.ensures.solution in
    are_met c.args.spec.now (members c.args.basis) c.in-Some.stack.steps (subst (λ (w : Words). IsSolution w (members c.args.basis) c.in-Some.stack.steps) c.requires.live solution)

pub returns-in-Some : goal.returns-in-Some
returns-in-Some c =
    let solution : IsSolution c.args.live.now (members c.args.basis) c.in-Some.stack.steps = rw c.in-Some.is at c.in_ok-stack.ensures.solution in
    let size : length c.in-Some.stack.steps ≡ c.loop-size.size = rw c.in-Some.is at c.in_ok-stack.ensures.size in
    let low : length c.in-Some.stack.steps ≤ c.args.most = omega (arith, size, c.loop-size-test.true) in
    let fits : IsChainWithin (specification c.args.spec.now) (members c.args.basis)
    (length c.in-Some.stack.steps) c.in_ok-chain_of.field-0 =
    c.in_ok-chain_of.ensures (members c.args.basis) solution.over in
    let least : NoneBelow (specification c.args.spec.now) (members c.args.basis) (length c.in-Some.stack.steps) =
    clear_whole c.args.spec.now c.args.live.now (members c.args.basis) c.loop-size.size (length c.in-Some.stack.steps) c.requires.live c.loop-size.invariant size in
    fitting_least c.args.spec.now (members c.args.basis) (length c.in-Some.stack.steps) c.args.most c.in_ok-chain_of.field-0 fits least low

pub returns : goal.returns
returns c =
    let end : c.args.most + 1 ≡ c.loop-size.size = omega (arith, c.loop-size-test.false, c.loop-size.auto.size-end) in
    clear_whole c.args.spec.now c.args.live.now (members c.args.basis) c.loop-size.size (c.args.most + 1) c.requires.live c.loop-size.invariant end
