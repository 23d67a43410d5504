use Rattle.std.proofs.Common.{◌≡◌, ◌-◌, ◌++◌, ◌≤◌}
use Rattle.aiger_text.specs.Naming.{numbered_from}
use Rattle.aiger_text.proofs.names.numbered_names.Given as goal

abbrev pub invariant-loop-at : goal.invariant-loop-at
invariant-loop-at l = record {
  same : l.names.items ++ numbered_from l.prefix l.at (l.count - l.at) ≡ numbered_from l.prefix 0 l.count;
  low : l.at ≤ l.count;
}

abbrev pub decreases-loop-at : goal.decreases-loop-at
decreases-loop-at l = l.count - l.at
