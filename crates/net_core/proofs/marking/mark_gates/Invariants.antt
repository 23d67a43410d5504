use Rattle.std.proofs.Common.{◌≡◌, ◌+◌, ◌≤◌, length}
use Rattle.net_theory.specs.Reach.{marked}
use Rattle.net_core.specs.Marks.{set_of, AreAt}
use Rattle.net_core.proofs.marking.mark_gates.Given as goal

abbrev pub invariant-loop-gate : goal.invariant-loop-gate
invariant-loop-gate l = record {
  marks : marked (set_of l.marks) (l.sources + 1) l.left ≡ marked (set_of l.initial.marks) (l.sources + 1) l.gates;
  stand : AreAt (l.sources + 1) l.left;
  room : l.sources + 1 + length l.left ≤ length l.marks;
}

abbrev pub decreases-loop-gate : goal.decreases-loop-gate
decreases-loop-gate l = length l.left
