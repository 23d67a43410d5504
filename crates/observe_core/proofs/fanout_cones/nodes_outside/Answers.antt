use Rattle.std.proofs.Common.{◌≡◌, ◌∙◌, false, sym}
use Rattle.std.proofs.lemmas.Bool.{both_ways}
use Rattle.window_theory.specs.Nodes.{among}
use Rattle.observe_core.specs.KeptLaws.{kept_start, kept_on, kept_off}
use Rattle.observe_core.proofs.fanout_cones.nodes_outside.Goals as goal

pub loop-node-init : goal.loop-node-init
loop-node-init c = kept_start (λ p. among c.args.gates.now p ≡ false) c.args.nodes.now c.new-kept.result.items c.requires c.new-kept.ensures.items

pub loop-node-preserved-then-has : goal.loop-node-preserved-then-has
loop-node-preserved-then-has c =
    kept_off (λ p. among c.args.gates.now p ≡ false) c.args.nodes.now c.loop-node.left.now c.in-Some.node.now c.in-Some.rest.now c.loop-node.kept.items c.in-Some.ensures.cases.0
    (λ off. both_ways (among c.args.gates.now c.in-Some.node.now) off (sym c.has.ensures ∙ c.if-has.true)) c.loop-node.invariant

pub loop-node-preserved : goal.loop-node-preserved
loop-node-preserved c =
    kept_on (λ p. among c.args.gates.now p ≡ false) c.args.nodes.now c.loop-node.left.now c.in-Some.node.now c.in-Some.rest.now c.loop-node.kept.items c.push.new.self.items c.in-Some.ensures.cases.0
    (sym c.has.ensures ∙ c.if-has.false) c.in_ok-push.ensures.items c.loop-node.invariant
