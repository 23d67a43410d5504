use Rattle.std.proofs.Common.{◌≡◌, ℕ, arith, subst}
use Rattle.step_core.specs.StackLaws.{AreInputs, inputs_whole}
use Rattle.step_core.proofs.stack.StepStack.new.Goals as goal

pub invariant_of-result : goal.invariant_of-result
invariant_of-result c =
    let end : c.loop-before.before ≡ c.args.n = omega (arith, c.loop-before-test.false, c.loop-before.auto.before-end) in
    inputs_whole c.args.n c.loop-before.words.items c.new-steps.result.items c.requires c.new-steps.ensures.items
    (subst (λ (k : ℕ). AreInputs c.args.n k c.loop-before.words.items) end c.loop-before.invariant)
