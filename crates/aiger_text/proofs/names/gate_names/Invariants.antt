use Rattle.std.proofs.Common.{◌≡◌, ◌-◌, ◌++◌, ◌≤◌}
use Rattle.aiger_text.specs.Naming.{gate_names_from}
use Rattle.aiger_text.proofs.names.gate_names.Given as goal

abbrev pub invariant-loop-at : goal.invariant-loop-at
invariant-loop-at l = record {
  same : l.names.items ++ gate_names_from l.at (l.count - l.at) ≡ gate_names_from 0 l.count;
  low : l.at ≤ l.count;
}

abbrev pub decreases-loop-at : goal.decreases-loop-at
decreases-loop-at l = l.count - l.at
