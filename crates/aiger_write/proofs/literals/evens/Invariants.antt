use Rattle.std.proofs.Common.{◌≡◌, ◌+◌, ◌-◌, ◌++◌, ◌≤◌}
use Rattle.aiger_core.specs.Written.{even_from}
use Rattle.aiger_write.proofs.literals.evens.Given as goal

abbrev pub invariant-loop-done : goal.invariant-loop-done
invariant-loop-done l = record {
  same : l.literals.items ++ even_from (l.from + l.done) (l.count - l.done) ≡ even_from l.from l.count;
  low : l.done ≤ l.count;
}

abbrev pub decreases-loop-done : goal.decreases-loop-done
decreases-loop-done l = l.count - l.done
