use Rattle.std.proofs.Common.{◌≡◌, length}
use Rattle.window_theory.specs.Window.{AreTaken}
use Rattle.window_core.proofs.growing.take_gates.Given as goal

abbrev pub invariant-loop-taken : goal.invariant-loop-taken
invariant-loop-taken l = record {
  are : AreTaken l.net l.root l.partner l.taken.items;
  count : length l.taken.items ≡ l._taken;
}
