use Rattle.std.proofs.Common.{◌≡◌, ◌++◌, length}
use Rattle.std.specs.List.{flat_map}
use Rattle.aiger_text.specs.Spelling.{symbol_text}
use Rattle.aiger_text.proofs.writing.push_symbols.Given as goal

abbrev pub invariant-loop-symbol : goal.invariant-loop-symbol
invariant-loop-symbol l = l.text.items ++ flat_map symbol_text l.left ≡ l.initial.text.items ++ flat_map symbol_text l.symbols

abbrev pub decreases-loop-symbol : goal.decreases-loop-symbol
decreases-loop-symbol l = length l.left
