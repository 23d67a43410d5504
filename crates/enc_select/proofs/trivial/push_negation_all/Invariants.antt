use Rattle.std.proofs.Common.{◌-◌}
use Rattle.std.specs.List.{range_with_len, flat_map}
use Rattle.clause_core.specs.Clauses.{Appends}
use Rattle.enc_theory.specs.Select.{negation_from}
use Rattle.enc_select.proofs.trivial.push_negation_all.Given as goal

abbrev pub invariant-loop-j : goal.invariant-loop-j
invariant-loop-j l = Appends l.initial.list l.list (flat_map (negation_from l.z l.i l.op) (range_with_len 1 (l.j - 1)))
