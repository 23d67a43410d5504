use Rattle.std.proofs.Common.{◌≡◌, ◌++◌, take}
use Rattle.std.specs.List.{flat_map}
use Rattle.lrat_text.specs.Spelling.{literal_item}
use Rattle.cmd_formula.proofs.dimacs.push_lits.Given as goal

abbrev pub invariant-loop-lit : goal.invariant-loop-lit
invariant-loop-lit l = l.text.items ≡ l.initial.text.items ++ flat_map literal_item (take l.lit-index l.lits)
