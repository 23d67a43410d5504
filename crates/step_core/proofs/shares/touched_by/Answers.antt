-- One more row.
use Rattle.std.proofs.Common.{◌+◌, length, arith, refl}
use Rattle.chain_theory.specs.Operator.{digit}
use Rattle.step_core.specs.GroupLaws.{more_touched}
use Rattle.step_core.proofs.shares.touched_by.Goals as goal

pub loop-row-preserved : goal.loop-row-preserved
loop-row-preserved c = more_touched c.args.spec.now c.args.stack.now.n c.args.stack.now.steps (digit c.args.reads)
    (digit c.loop-row.touched) (digit c.with_clashing-touched.result) c.args.before c.put-others.result c.args.missing
    c.loop-row.row c.alike-same.result (c.args.stack.now.n + length c.args.stack.now.steps) c.requires.inputs refl
    (omega (arith, c.loop-row-test.true)) c.requires.missing c.put-others.ensures c.alike-same.ensures
    c.loop-row.invariant c.with_clashing-touched.ensures
