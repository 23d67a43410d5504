-- The digit had the other value.
use Rattle.step_core.specs.MaskLaws.{put_shifted}
use Rattle.step_core.proofs.masks.put.Goals as goal

pub returns : goal.returns
returns c = put_shifted c.args.mask c.args.number c.has-old.result c.args.member c.requires c.has-old.ensures c.if-old-member.false
