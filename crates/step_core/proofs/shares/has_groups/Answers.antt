-- One more output, which is a start.
use Rattle.std.proofs.Common.{arith}
use Rattle.chain_theory.specs.Operator.{digit}
use Rattle.step_core.specs.GroupLaws.{groups_more}
use Rattle.step_core.proofs.shares.has_groups.Goals as goal

pub loop-output-preserved : goal.loop-output-preserved
loop-output-preserved c = groups_more c.args.spec.now c.args.stack.now.steps (digit c.args.reads)
    (digit c.loop-output.starts) (digit c.put-starts.result) c.loop-output.covered c.group_of-covered.result
    c.loop-output.output c.loop-output.invariant (omega (arith, c.loop-output-test.true, c.outputs-output-end.ensures))
    c.put-starts.ensures c.group_of-covered.ensures
