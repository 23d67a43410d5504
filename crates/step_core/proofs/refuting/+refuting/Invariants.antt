use Rattle.std.proofs.Common.{◌≡◌, true, ◌+◌, ◌-◌, ◌*◌}
use Rattle.chain_theory.specs.Operator.{digit}
use Rattle.op_basis.specs.Basis.{members}
use Rattle.step_core.specs.Enumeration.{HasLarger, HasPair, IsGivenStep}
use Rattle.step_core.specs.Reads.{NoneReadingWith}
use Rattle.step_core.specs.RefutingLaws.{IsRuledOut, AllBelow}
use Rattle.step_core.proofs.refuting.+refuting.Given as goal

abbrev pub decreases-refute : goal.decreases-refute
decreases-refute l = 9 * l.left

abbrev pub decreases-refute_steps : goal.decreases-refute_steps
decreases-refute_steps l = 9 * l.left - 1

abbrev pub decreases-refute_larger : goal.decreases-refute_larger
decreases-refute_larger l = 9 * l.left - 2

abbrev pub decreases-refute_pair : goal.decreases-refute_pair
decreases-refute_pair l = 9 * l.left - 3

abbrev pub decreases-refute_operators : goal.decreases-refute_operators
decreases-refute_operators l = 9 * l.left - 4

abbrev pub decreases-refute_step : goal.decreases-refute_step
decreases-refute_step l = 9 * l.left - 5

abbrev pub decreases-refute_after : goal.decreases-refute_after
decreases-refute_after l = 9 * l.left + 3

abbrev pub decreases-refute_own : goal.decreases-refute_own
decreases-refute_own l = 9 * l.left + 2

abbrev pub decreases-refute_case : goal.decreases-refute_case
decreases-refute_case l = 9 * l.left + 1

abbrev pub invariant-refute_steps-loop-before : goal.invariant-refute_steps-loop-before
invariant-refute_steps-loop-before l = IsRuledOut l.initial.stack l.stack (AllBelow (λ m.
    NoneReadingWith l.spec (members l.rules.basis) l.initial.stack.steps l.left (digit l.reads)
    (HasLarger (m + 1))) l.before)

abbrev pub invariant-refute_larger-loop-before : goal.invariant-refute_larger-loop-before
invariant-refute_larger-loop-before l = IsRuledOut l.initial.stack l.stack (AllBelow (λ m.
    NoneReadingWith l.spec (members l.rules.basis) l.initial.stack.steps l.left (digit l.reads)
    (HasPair (m + 1) l.high)) l.before)

abbrev pub invariant-refute_operators-loop-word : goal.invariant-refute_operators-loop-word
invariant-refute_operators-loop-word l = IsRuledOut l.initial.stack l.stack (AllBelow (λ op.
    members l.rules.basis op ≡ true →
    NoneReadingWith l.spec (members l.rules.basis) l.initial.stack.steps l.left (digit l.reads)
    (IsGivenStep (record { j = l.j; k = l.k; op = op }))) l.word)
