use Rattle.std.proofs.Common.{◌-◌}
use Rattle.std.specs.List.{range_with_len, flat_map}
use Rattle.clause_core.specs.Clauses.{Appends}
use Rattle.enc_theory.specs.Select.{negation_pair}
use Rattle.enc_select.proofs.trivial.push_negation_from.Given as goal

abbrev pub invariant-loop-k : goal.invariant-loop-k
invariant-loop-k l = Appends l.initial.list l.list (flat_map (negation_pair l.z l.i l.op l.j) (range_with_len 1 (l.k - 1)))
