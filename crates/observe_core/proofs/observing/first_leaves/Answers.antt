use Rattle.std.proofs.Common.{◌∙◌, ◌++◌, ℕ, List, ap}
use Rattle.observe_core.specs.ObservingLaws.{together_start, together_more, together_end}
use Rattle.observe_core.proofs.observing.first_leaves.Goals as goal

pub loop-node-init : goal.loop-node-init
loop-node-init c =
    together_start c.args.inputs.now c.args.side_inputs.now c.extend_from_slice.new.self.items c.requires
    (c.in_ok-extend_from_slice.ensures.items ∙ ap (λ (xs : List ℕ). xs ++ c.args.inputs.now) c.in_ok-first.ensures.items)

pub put-requires : goal.put-requires
put-requires c = c.loop-node.invariant.rising

pub loop-node-preserved : goal.loop-node-preserved
loop-node-preserved c =
    together_more c.args.inputs.now c.args.side_inputs.now c.loop-node.left.now c.in-Some.node.now c.in-Some.rest.now
    c.loop-node.first.items c.put.new.nodes.items c.in-Some.ensures.cases.0 c.in_ok-put.ensures c.loop-node.invariant

pub returns : goal.returns
returns c = together_end c.args.inputs.now c.args.side_inputs.now c.loop-node.left.now c.loop-node.first.items c.in_default.ensures.cases c.loop-node.invariant
