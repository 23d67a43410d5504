use Rattle.std.proofs.Common.{◌≡◌, ◌++◌, length}
use Rattle.std.specs.List.{flat_map}
use Rattle.aiger_text.specs.Spelling.{gate_text}
use Rattle.aiger_text.proofs.writing.push_gates.Given as goal

abbrev pub invariant-loop-gate : goal.invariant-loop-gate
invariant-loop-gate l = l.text.items ++ flat_map gate_text l.left ≡ l.initial.text.items ++ flat_map gate_text l.gates

abbrev pub decreases-loop-gate : goal.decreases-loop-gate
decreases-loop-gate l = length l.left
