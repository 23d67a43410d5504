use Rattle.std.proofs.Common.{◌≡◌, ◌<◌, ℕ, length}
use Rattle.net_core.specs.Marks.{set_of}
use Rattle.subst_core.proofs.Marking.{turned}
use Rattle.subst_core.proofs.marks.turn.Given as goal

abbrev pub invariant-loop-mark : goal.invariant-loop-mark
invariant-loop-mark l = record {
  size : length l.marks ≡ length l.initial.marks;
  turned : (p : ℕ) → p < length l.initial.marks → set_of l.marks p ≡ turned l.initial.marks l.mark-index p;
}
