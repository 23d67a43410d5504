-- No chain with fewer steps than the current size implements the tables.
use Rattle.decide_core.specs.Decided.{Fewer}
use Rattle.decide_core.proofs.deciding.search_from.Given as goal

abbrev pub invariant-loop-size : goal.invariant-loop-size
invariant-loop-size g l = Fewer l.question.header.now l.size
