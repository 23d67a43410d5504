-- Nothing is added, or what touches the group.
use Rattle.step_core.specs.GroupLaws.{merged_with}
use Rattle.step_core.proofs.shares.merged.Goals as goal

pub returns : goal.returns
returns c = merged_with c.args.group c.args.touched c.ranges.group.fits c.if-group-touched-eq0.false
