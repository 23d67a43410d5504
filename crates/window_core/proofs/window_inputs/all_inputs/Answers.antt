use Rattle.std.proofs.Common.{subst, sym}
use Rattle.window_theory.specs.Nodes.{IsRising}
use Rattle.window_core.specs.EndsLaws.{found_start, found_more, found_end, put_outside_rising}
use Rattle.window_core.proofs.window_inputs.all_inputs.Goals as goal

pub loop-node-init : goal.loop-node-init
loop-node-init c = found_start c.args.net.now c.args.gates.now c.in_ok-inputs.inputs.items c.in_ok-inputs.ensures.items

pub loop-node-preserved : goal.loop-node-preserved
loop-node-preserved c =
    found_more c.args.net.now c.args.gates.now c.loop-node.left.now c.in-Some.node.now c.in-Some.rest.now
    c.gate_at-gate.result.now c.loop-node.inputs.items c.put_outside.new.inputs.items
    c.put_outside-in-Some.new.inputs.items
    c.in-Some.ensures.cases.0 c.gate_at-gate.ensures.gate c.in_ok-put_outside.ensures c.in_ok-put_outside-2.ensures c.loop-node.invariant

pub put_outside-requires-in-Some : goal.put_outside-requires-in-Some
put_outside-requires-in-Some c =
    subst IsRising (sym c.in_ok-put_outside.ensures) (put_outside_rising c.args.gates.now c.gate_at-gate.result.now.a c.loop-node.inputs.items c.loop-node.invariant.rising)

pub returns : goal.returns
returns c = found_end c.args.net.now c.args.gates.now c.loop-node.left.now c.loop-node.inputs.items c.in_default.ensures.cases c.loop-node.invariant
