use Rattle.clause_core.proofs.Marks.{Cleared}
use Rattle.clause_core.proofs.list.clear_seen.Given as goal

abbrev pub invariant-loop-lit : goal.invariant-loop-lit
invariant-loop-lit l = Cleared l.lits l.lit-index l.initial.seen l.seen
