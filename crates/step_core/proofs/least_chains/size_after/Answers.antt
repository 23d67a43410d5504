-- The enumeration ends at a solution for the live outputs.
use Rattle.std.proofs.Common.{◌≡◌, ◌≤◌, ℕ, length, List, arith, ap, subst}
use Rattle.chain_theory.specs.Chain.{Step}
use Rattle.op_basis.specs.Basis.{members}
use Rattle.tt_core.specs.Words.{Words, specification}
use Rattle.step_core.specs.Rules.{RulesView}
use Rattle.step_core.specs.LeastChains.{IsChainWithin}
use Rattle.step_core.specs.Steps.{IsSolution, AreOver}
use Rattle.step_core.specs.LeastChainLaws.{are_met, fitting_most}
use Rattle.step_core.proofs.least_chains.size_after.Goals as goal

pub chain_of-requires-clause-met : goal.chain_of-requires-clause-met
chain_of-requires-clause-met c =
    let solution : IsSolution c.args.live.now (members c.new-rules.result.basis) c.enumerate.new.stack.steps = c.in_ok-enumerate.ensures.solution c.if-branch.true in
    are_met c.args.spec.now (members c.new-rules.result.basis) c.enumerate.new.stack.steps
    (subst (λ (w : Words). IsSolution w (members c.new-rules.result.basis) c.enumerate.new.stack.steps)
    c.requires.live solution)

pub returns-then-branch : goal.returns-then-branch
returns-then-branch c =
    let solution : IsSolution c.args.live.now (members c.new-rules.result.basis) c.enumerate.new.stack.steps = c.in_ok-enumerate.ensures.solution c.if-branch.true in
    let basis_is : c.new-rules.result.basis ≡ c.args.basis = ap (λ (r : RulesView). r.basis) c.new-rules.ensures in
    let over : AreOver (members c.args.basis) c.enumerate.new.stack.steps = subst (λ (b : ℕ). AreOver (members b) c.enumerate.new.stack.steps) basis_is solution.over in
    let low : length c.enumerate.new.stack.steps ≤ c.args.most =
    omega (
      arith,
      c.in_ok-enumerate.ensures.size c.if-branch.true,
      ap (λ (ss : List Step). length ss) c.loop-size.invariant.empty,
      c.loop-size-test.true,
    ) in
    let fits : IsChainWithin (specification c.args.spec.now) (members c.args.basis)
    (length c.enumerate.new.stack.steps) c.in_ok-chain_of.field-0 =
    c.in_ok-chain_of.ensures (members c.args.basis) over in
    fitting_most c.args.spec.now (members c.args.basis) (length c.enumerate.new.stack.steps) c.args.most c.in_ok-chain_of.field-0 fits low
