-- Each set of inputs is refuted.
use Rattle.std.proofs.Common.{◌≡◌, ℕ, ◌^◌, ap, ◌∙◌, subst, arith}
use Rattle.op_basis.specs.Basis.{members}
use Rattle.chain_theory.specs.Operator.{digit}
use Rattle.step_core.specs.Rules.{RulesView}
use Rattle.step_core.specs.StepStacks.{StackView}
use Rattle.step_core.specs.Reads.{NoneReading, NoneOfSize}
use Rattle.step_core.specs.RefutingLaws.{all_none, all_more, moved_refuting}
use Rattle.step_core.specs.RefutedLaws.{first_state, all_sets, rows_bound}
use Rattle.step_core.proofs.refuted.refute_sets.Goals as goal

pub loop-reads-init : goal.loop-reads-init
loop-reads-init c = all_none _ c.in_ok-stack.stack

pub refute-requires : goal.refute-requires
refute-requires c = moved_refuting c.args.live.now c.in_ok-stack.stack c.loop-reads.stack c.args.steps
    c.due-due.result c.missing_outputs-missing.result c.loop-reads.invariant.same
    (first_state c.args.live.now c.in_ok-stack.stack c.args.steps c.due-due.result c.missing_outputs-missing.result
    (c.in_ok-stack.ensures.inputs ∙ c.n-n.ensures.value) c.in_ok-stack.ensures.empty c.requires c.due-due.ensures
    c.missing_outputs-missing.ensures)

pub loop-reads-preserved : goal.loop-reads-preserved
loop-reads-preserved c =
    let is = c.in_ok-refute.ensures in
    all_more _ c.loop-reads.reads c.in_ok-stack.stack c.loop-reads.stack c.refute.new.stack c.loop-reads.invariant
    (is.same c.if-not-branch.false)
    (subst (λ (x : StackView). NoneReading c.args.live.now (members c.new-rules.result.basis) x.steps c.args.steps
    (digit c.loop-reads.reads)) c.loop-reads.invariant.same (is.none c.if-not-branch.false))

pub returns : goal.returns
returns c = λ e.
    let end : c.loop-reads.reads ≡ 2 ^ c.args.live.now.n = omega (arith, c.loop-reads-test.false, c.loop-reads.auto.reads-end, rows_bound c.n-n.result (omega (arith, c.n-n.ensures.value, c.n-n.ensures.whole.inputs)), ap (λ (x : ℕ). 2 ^ x) c.n-n.ensures.value) in
    subst (λ (b : ℕ). NoneOfSize c.args.live.now (members b) c.args.steps)
    (ap (λ (r : RulesView). r.basis) c.new-rules.ensures)
    (all_sets c.args.live.now (members c.new-rules.result.basis) c.in_ok-stack.stack.steps c.args.steps
    c.loop-reads.reads c.in_ok-stack.ensures.empty end c.loop-reads.invariant.none)
