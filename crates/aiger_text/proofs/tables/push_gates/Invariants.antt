use Rattle.std.proofs.Common.{◌≡◌, ◌++◌, length, map}
use Rattle.aiger_text.specs.Meaning.{gate_table}
use Rattle.aiger_text.proofs.tables.push_gates.Given as goal

abbrev pub invariant-loop-gate : goal.invariant-loop-gate
invariant-loop-gate l = l.tables.items ++ map (gate_table l.signals) l.left ≡ l.initial.tables.items ++ map (gate_table l.signals) l.gates

abbrev pub decreases-loop-gate : goal.decreases-loop-gate
decreases-loop-gate l = length l.left
