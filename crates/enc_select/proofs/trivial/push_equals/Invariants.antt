use Rattle.std.proofs.Common.{◌-◌}
use Rattle.std.specs.List.{range_with_len, flat_map}
use Rattle.clause_core.specs.Clauses.{Appends}
use Rattle.enc_theory.specs.Select.{equal_choice}
use Rattle.enc_select.proofs.trivial.push_equals.Given as goal

abbrev pub invariant-loop-j : goal.invariant-loop-j
invariant-loop-j l = Appends l.initial.list l.list (flat_map (equal_choice l.constants l.z l.i) (range_with_len 1 (l.j - 1)))
