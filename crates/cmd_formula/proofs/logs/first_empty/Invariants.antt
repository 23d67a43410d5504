use Rattle.std.proofs.Common.{◌≡◌, ◌+◌, ◌<◌, length}
use Rattle.cmd_formula.specs.Dimacs.{empty_from}
use Rattle.cmd_formula.proofs.logs.first_empty.Given as goal

abbrev pub invariant-loop-clause : goal.invariant-loop-clause
invariant-loop-clause l = record {
  same : empty_from l.number l.left ≡ empty_from 1 l.clauses;
  room : l.number + length l.left < 2000000001;
}

abbrev pub decreases-loop-clause : goal.decreases-loop-clause
decreases-loop-clause l = length l.left
