use Rattle.std.proofs.Common.{ap₂, ◌∙◌}
use Rattle.op_basis.specs.WordOperator.{on_words}
use Rattle.step_core.specs.StackLaws.{push_seen}
use Rattle.step_core.proofs.stack.StepStack.push.Goals as goal

pub invariant_of-self-in_default : goal.invariant_of-self-in_default
invariant_of-self-in_default c =
    push_seen c.self.inside.n c.on_words-word.result c.self.inside.steps.items c.push-2.new.self.items c.args.step
    c.self.inside.words.items c.push.new.self.items c.args.self.now c.self.view_is c.self.invariant
    c.in_default.ensures.items c.in_ok-push.ensures.items c.requires.room c.requires.at
    (c.on_words-word.ensures ∙ ap₂ (on_words c.args.step.op) c.word.ensures.word c.word-2.ensures.word)
