use Rattle.merge_core.specs.WholeLaws.{sources_start, sources_more}
use Rattle.merge_core.proofs.whole.source_nodes.Goals as goal

pub loop-before-init : goal.loop-before-init
loop-before-init c = sources_start c.new-nodes.result.items c.new-nodes.ensures.items

pub loop-before-preserved : goal.loop-before-preserved
loop-before-preserved c = sources_more c.loop-before.nodes.items c.push.new.self.items c.loop-before.before c.loop-before.invariant c.in_ok-push.ensures.items
