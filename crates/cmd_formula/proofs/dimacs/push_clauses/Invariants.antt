use Rattle.std.proofs.Common.{◌≡◌, ◌++◌, take}
use Rattle.std.specs.List.{flat_map}
use Rattle.cmd_formula.specs.Dimacs.{clause_text}
use Rattle.cmd_formula.proofs.dimacs.push_clauses.Given as goal

abbrev pub invariant-loop-clause : goal.invariant-loop-clause
invariant-loop-clause l = l.text.items ≡ l.initial.text.items ++ flat_map clause_text (take l.clause-index l.clauses)
