use Rattle.subsume_core.specs.Units.{AreFlagged}
use Rattle.subsume_core.proofs.units.Units.flag_all.Given as goal

abbrev pub invariant-loop-before : goal.invariant-loop-before
invariant-loop-before l = AreFlagged l.clauses l.before l.self
