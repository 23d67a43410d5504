-- A size without a chain is refuted, and in the end all are.
use Rattle.std.specs.Prelude.{◌≤◌}
use Rattle.std.proofs.Common.{sym, ◌∙◌, subst, arith}
use Rattle.size_loop.specs.declared.sizes.SizeOutcome.{SizeOutcome}
use Rattle.size_loop.specs.Outcomes.{IsSized}
use Rattle.decide_core.specs.DecidedLaws.{size_refuted}
use Rattle.decide_core.proofs.deciding.search_from.Goals as goal

pub loop-size-preserved : goal.loop-size-preserved
loop-size-preserved g c =
    let h = c.args.question.header.now in
    let sized = subst (λ (outcome : SizeOutcome). IsSized h c.loop-size.size outcome) c.in-Logged.is c.in_ok-chain.ensures in
    let few : c.loop-size.size ≤ c.args.question.header.now.max = omega (arith, c.loop-size-test.true) in
    size_refuted h c.loop-size.size c.in-Logged.section c.args.question.checked few sized.0 (sym c.is_open.ensures ∙ c.if-is_open.false) c.loop-size.invariant

pub loop-size-preserved-then-branch : goal.loop-size-preserved-then-branch
loop-size-preserved-then-branch g c = c.in_ok-is_refuted.ensures c.if-branch.true c.loop-size.invariant

pub returns : goal.returns
returns g c = λ q low has. c.loop-size.invariant q (omega (arith, low, c.loop-size-test.false)) has
