use Rattle.std.proofs.Common.{◌-◌}
use Rattle.std.specs.List.{range_with_len, flat_map}
use Rattle.clause_core.specs.Clauses.{Appends}
use Rattle.enc_theory.specs.Select.{no_reapplication_operands}
use Rattle.enc_select.proofs.no_reapplication.push_no_reapplication_from.Given as goal

abbrev pub invariant-loop-second : goal.invariant-loop-second
invariant-loop-second l = Appends l.initial.list l.list (flat_map (no_reapplication_operands l.ordered l.z l.step l.later l.first) (range_with_len 1 (l.second - 1)))
