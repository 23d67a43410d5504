use Rattle.std.proofs.Common.{◌≡◌, ℕ, true, length}
use Rattle.net_core.specs.Marks.{set_of}
use Rattle.window_theory.specs.Nodes.{among}
use Rattle.subst_core.specs.Lists.{AllBelow, AreUnmarked}
use Rattle.subst_core.proofs.marks.are_unmarked.Given as goal

abbrev pub invariant-loop-node : goal.invariant-loop-node
invariant-loop-node l = record {
  below : AllBelow (length l.marks) l.left;
  within : (p : ℕ) → among l.left p ≡ true → among l.nodes p ≡ true;
  all : AreUnmarked (set_of l.marks) l.left → AreUnmarked (set_of l.marks) l.nodes;
}

abbrev pub decreases-loop-node : goal.decreases-loop-node
decreases-loop-node l = length l.left
