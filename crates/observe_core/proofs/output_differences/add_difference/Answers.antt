use Rattle.std.proofs.Common.{arith}
use Rattle.observe_core.specs.DifferingLaws.{row_more}
use Rattle.observe_core.proofs.output_differences.add_difference.Goals as goal

pub loop-j-preserved : goal.loop-j-preserved
loop-j-preserved c =
    row_more c.args.first.now c.args.second.now c.args.start c.loop-j.j c.args.differ.now c.loop-j.differ
    c.add_one.new.differ (omega (arith, c.loop-j-test.true, c.loop-j.invariant.size)) c.add_one.ensures
    c.loop-j.invariant
