use Rattle.window_core.specs.Noting.{AreAfter}
use Rattle.window_core.proofs.fanouts.note_later.Given as goal

abbrev pub invariant-loop-taken : goal.invariant-loop-taken
invariant-loop-taken l = AreAfter l.net l.taken l.first l.later.items
