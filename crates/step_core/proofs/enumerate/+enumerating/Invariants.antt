use Rattle.std.proofs.Common.{◌-◌, ◌*◌}
use Rattle.op_basis.specs.Basis.{members}
use Rattle.step_core.specs.Enumeration.{HasLarger, HasPair}
use Rattle.step_core.specs.OutcomeLaws.{IsRuledOut, AllUnder, AllOperators}
use Rattle.step_core.proofs.enumerate.+enumerating.Given as goal

abbrev pub decreases-enumerate : goal.decreases-enumerate
decreases-enumerate l = 5 * l.left

abbrev pub decreases-enumerate_larger : goal.decreases-enumerate_larger
decreases-enumerate_larger l = 5 * l.left - 1

abbrev pub decreases-enumerate_pair : goal.decreases-enumerate_pair
decreases-enumerate_pair l = 5 * l.left - 2

abbrev pub decreases-enumerate_operators : goal.decreases-enumerate_operators
decreases-enumerate_operators l = 5 * l.left - 3

abbrev pub decreases-enumerate_step : goal.decreases-enumerate_step
decreases-enumerate_step l = 5 * l.left - 4

abbrev pub invariant-enumerate-loop-before : goal.invariant-enumerate-loop-before
invariant-enumerate-loop-before l = IsRuledOut l.spec (members l.rules.basis) l.rules.whole l.left l.initial.stack
    l.stack (AllUnder l.spec (members l.rules.basis) l.initial.stack.steps l.left HasLarger l.before)

abbrev pub invariant-enumerate_larger-loop-before : goal.invariant-enumerate_larger-loop-before
invariant-enumerate_larger-loop-before l = IsRuledOut l.spec (members l.rules.basis) l.rules.whole l.left
    l.initial.stack l.stack (AllUnder l.spec (members l.rules.basis) l.initial.stack.steps l.left
    (λ m. HasPair m l.high) l.before)

abbrev pub invariant-enumerate_operators-loop-word : goal.invariant-enumerate_operators-loop-word
invariant-enumerate_operators-loop-word l = IsRuledOut l.spec (members l.rules.basis) l.rules.whole l.left
    l.initial.stack l.stack (AllOperators l.spec (members l.rules.basis) l.initial.stack.steps l.left l.j l.k l.word)
