use Rattle.std.proofs.Common.{◌≡◌, length}
use Rattle.aiger_text.specs.Meaning.{with_turns}
use Rattle.aiger_text.proofs.marks.turn_gates.Given as goal

abbrev pub invariant-loop-gate : goal.invariant-loop-gate
invariant-loop-gate l = with_turns l.marks l.turns.items l.left ≡ with_turns l.marks l.initial.turns.items l.gates

abbrev pub decreases-loop-gate : goal.decreases-loop-gate
decreases-loop-gate l = length l.left
