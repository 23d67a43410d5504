use Rattle.window_core.specs.Noting.{AreNoted}
use Rattle.window_core.proofs.fanouts.note_gates.Given as goal

abbrev pub invariant-loop-i : goal.invariant-loop-i
invariant-loop-i l = AreNoted l.net l.i l.last l.earlier.items
