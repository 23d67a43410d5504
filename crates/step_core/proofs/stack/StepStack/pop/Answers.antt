use Rattle.std.proofs.Common.{rules, ◌≡◌, ◌-◌, ◌<◌, length, take, sym, subst}
use Rattle.step_core.specs.StepStacks.{StackView}
use Rattle.step_core.specs.StackLaws.{pop_whole}
use Rattle.step_core.proofs.stack.StepStack.pop.Goals as goal

pub invariant_of-self : goal.invariant_of-self
invariant_of-self c =
    let steps : c.pop-2.new.self.items ≡ take (length c.self.inside.steps.items - 1) c.self.inside.steps.items = search rules in
    let words : c.pop.new.self.items ≡ take (length c.self.inside.words.items - 1) c.self.inside.words.items = search rules in
    pop_whole c.self.inside.n c.self.inside.steps.items c.pop-2.new.self.items c.self.inside.words.items
    c.pop.new.self.items c.self.invariant steps words
    (subst (λ (x : StackView). 0 < length x.steps) (sym c.self.view_is) c.requires)
