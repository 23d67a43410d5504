-- One more place of the set.
use Rattle.std.proofs.Common.{◌+◌, arith}
use Rattle.chain_theory.specs.Operator.{digit}
use Rattle.step_core.specs.GroupLaws.{more_grown}
use Rattle.step_core.proofs.shares.grown.Goals as goal

pub loop-before-preserved : goal.loop-before-preserved
loop-before-preserved c = more_grown c.args.spec.now c.args.stack.now.n c.args.stack.now.steps (digit c.args.reads)
    (digit c.args.group) (digit c.loop-before.wider) (digit c.touched_by-touched.result) (digit c.merged-wider.result)
    c.loop-before.before (c.n.result + c.len.result) c.has.result c.requires.inputs
    (omega (arith, c.n.ensures.inputs, c.len.ensures.count)) c.loop-before-test.true c.has.ensures c.if-not-has.false
    c.loop-before.invariant c.touched_by-touched.ensures c.merged-wider.ensures
