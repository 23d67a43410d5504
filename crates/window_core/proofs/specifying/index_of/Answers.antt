use Rattle.window_core.specs.MaskingLaws.{index_found}
use Rattle.window_core.proofs.specifying.index_of.Goals as goal

pub returns : goal.returns
returns c = index_found c.args.nodes.now c.loop-index.index c.args.node c.loop-index.invariant c.loop-index-test.false
