use Rattle.std.proofs.Common.{}
use Rattle.std.specs.List.{range_with_len, flat_map}
use Rattle.clause_core.specs.Clauses.{Appends}
use Rattle.enc_theory.specs.Families.{value_row}
use Rattle.enc_base.proofs.values.push_value_slot.Given as goal

abbrev pub invariant-loop-row : goal.invariant-loop-row
invariant-loop-row l = Appends l.initial.list l.list (flat_map (value_row l.z l.step l.slot) (range_with_len 0 l.row))
