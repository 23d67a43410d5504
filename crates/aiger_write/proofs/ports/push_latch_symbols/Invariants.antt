use Rattle.std.proofs.Common.{◌≡◌, ◌+◌, ◌++◌, length, map}
use Rattle.net_theory.specs.Document.{latch_output}
use Rattle.aiger_text.specs.declared.file.PortKind.TheVariants as kinds
use Rattle.aiger_core.specs.Written.{symbols_from}
use Rattle.aiger_write.proofs.ports.push_latch_symbols.Given as goal

abbrev pub invariant-loop-latch : goal.invariant-loop-latch
invariant-loop-latch l = record {
  same : l.symbols.items ++ symbols_from kinds.Latch l.at (map latch_output l.left) ≡
      l.initial.symbols.items ++ symbols_from kinds.Latch 0 (map latch_output l.latches);
  room : l.at + length l.left ≡ length l.latches;
}

abbrev pub decreases-loop-latch : goal.decreases-loop-latch
decreases-loop-latch l = length l.left
