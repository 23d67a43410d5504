use Rattle.improve_theory.specs.Improvement.{IsResynthesisOf}
use Rattle.improve_windows.proofs.passes.improved.Given as goal

abbrev pub invariant-loop-effort : goal.invariant-loop-effort
invariant-loop-effort g l = IsResynthesisOf l.fn.settings l.fn.net l.left.net l.left.settled l.left.undecided.items
