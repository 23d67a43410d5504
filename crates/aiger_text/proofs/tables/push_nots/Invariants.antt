use Rattle.std.proofs.Common.{◌≡◌, ◌+◌, ◌-◌, ◌++◌, ◌≤◌}
use Rattle.aiger_text.specs.Meaning.{not_tables}
use Rattle.aiger_text.proofs.tables.push_nots.Given as goal

abbrev pub invariant-loop-at : goal.invariant-loop-at
invariant-loop-at l = record {
  same : l.tables.items ++ not_tables l.signals l.at (l.last + 1 - l.at) ≡ l.initial.tables.items ++ not_tables l.signals 1 l.last;
  low : 1 ≤ l.at;
  high : l.at ≤ l.last + 1;
}

abbrev pub decreases-loop-at : goal.decreases-loop-at
decreases-loop-at l = l.last + 1 - l.at
