use Rattle.std.proofs.Common.{◌≡◌, ◌+◌, ◌++◌, length}
use Rattle.aiger_core.specs.Written.{symbols_from}
use Rattle.aiger_write.proofs.ports.push_symbols.Given as goal

abbrev pub invariant-loop-name : goal.invariant-loop-name
invariant-loop-name l = record {
  same : l.symbols.items ++ symbols_from l.kind l.at l.left ≡ l.initial.symbols.items ++ symbols_from l.kind 0 l.names;
  room : l.at + length l.left ≡ length l.names;
}

abbrev pub decreases-loop-name : goal.decreases-loop-name
decreases-loop-name l = length l.left
