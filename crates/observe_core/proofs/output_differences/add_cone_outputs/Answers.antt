use Rattle.std.proofs.Common.{length}
use Rattle.observe_core.specs.DifferingLaws.{row_fits}
use Rattle.observe_core.proofs.output_differences.add_cone_outputs.Goals as goal

pub overflow_add-row : goal.overflow_add-row
overflow_add-row c = record {
  fits = row_fits c.args.start c.loop-i.i (length c.args.fanout_cone.now)
      (length c.args.differ.now) (length c.args.first.now) c.requires.some c.loop-i-test.true c.requires.one
      c.requires.small;
}
