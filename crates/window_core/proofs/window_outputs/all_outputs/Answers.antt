use Rattle.std.proofs.lemmas.Bool.{both_ways}
use Rattle.window_core.specs.SeenLaws.{shown_start, shown_on, shown_off, shown_end, shown_inside}
use Rattle.window_core.proofs.window_outputs.all_outputs.Goals as goal

pub loop-node-init : goal.loop-node-init
loop-node-init c = shown_start c.args.net.now c.args.gates.now c.in_ok-outputs.outputs.items c.requires.rising c.in_ok-outputs.ensures.items

pub is_output-requires-clause-inside : goal.is_output-requires-clause-inside
is_output-requires-clause-inside c = shown_inside c.args.net.now c.args.gates.now c.loop-node.left.now
    c.in-Some.node.now c.in-Some.rest.now c.loop-node.outputs.items c.in-Some.ensures.cases.0 c.loop-node.invariant

pub loop-node-preserved-then-is_output : goal.loop-node-preserved-then-is_output
loop-node-preserved-then-is_output c =
    shown_on c.args.net.now c.args.gates.now c.loop-node.left.now c.in-Some.node.now c.in-Some.rest.now
    c.loop-node.outputs.items c.push.new.self.items c.in-Some.ensures.cases.0
    (c.is_output.ensures.yes c.if-is_output.true) c.in_ok-push.ensures.items c.loop-node.invariant

pub loop-node-preserved : goal.loop-node-preserved
loop-node-preserved c =
    shown_off c.args.net.now c.args.gates.now c.loop-node.left.now c.in-Some.node.now c.in-Some.rest.now c.loop-node.outputs.items c.in-Some.ensures.cases.0
    (λ is. both_ways c.is_output.result c.if-is_output.false (c.is_output.ensures.no is)) c.loop-node.invariant

pub returns-clause-outputs : goal.returns-clause-outputs
returns-clause-outputs c = shown_end c.args.net.now c.args.gates.now c.loop-node.left.now c.loop-node.outputs.items c.in_default.ensures.cases c.loop-node.invariant
