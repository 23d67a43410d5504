use Rattle.std.proofs.Common.{◌≡◌, ◌<◌, ◌^◌, true, ℕ, List, length, ap, sym, subst, arith}
use Rattle.chain_theory.specs.Operator.{digit}
use Rattle.window_core.specs.MaskingLaws.{masked_more, masked_end, masked_spec}
use Rattle.window_core.proofs.specifying.masked_spec.Goals as goal

pub loop-node-preserved : goal.loop-node-preserved
loop-node-preserved c =
    masked_more c.args.cone.now c.args.mask c.args.window.now.outputs c.loop-node.left.now c.in-Some.node.now
    c.in-Some.rest.now c.loop-node.on.items c.loop-node.cares.items c.push.new.self.items
    c.push-in-Some.new.self.items c.gate_word.result
    c.in-Some.ensures.cases.0 c.gate_word.ensures c.in_ok-push.ensures.items c.in_ok-push-2.ensures.items c.loop-node.invariant

pub new-requires : goal.new-requires
new-requires c =
    masked_spec c.args.cone.now c.args.mask (length c.inputs-inputs.result.now) c.args.window.now.outputs c.loop-node.on.items c.loop-node.cares.items
    (masked_end c.args.cone.now c.args.mask c.args.window.now.outputs c.loop-node.left.now c.loop-node.on.items c.loop-node.cares.items c.in_default.ensures.cases c.loop-node.invariant)
    (omega (arith, ap (length {A = ℕ}) c.inputs-inputs.ensures.value, c.inputs-inputs.ensures.whole.few_inputs)) c.inputs-inputs.ensures.whole.few_outputs
    (subst (λ (xs : List ℕ). (t : ℕ) → digit c.args.mask t ≡ true → t < 2 ^ length xs) (sym c.inputs-inputs.ensures.value) c.requires.low)
