use Rattle.std.proofs.Common.{◌≡◌, length}
use Rattle.aiger_text.specs.Naming.{with_symbols}
use Rattle.aiger_text.proofs.names.set_symbols.Given as goal

abbrev pub invariant-loop-symbol : goal.invariant-loop-symbol
invariant-loop-symbol l = with_symbols l.kind l.names.items l.left ≡ with_symbols l.kind l.initial.names.items l.symbols

abbrev pub decreases-loop-symbol : goal.decreases-loop-symbol
decreases-loop-symbol l = length l.left
