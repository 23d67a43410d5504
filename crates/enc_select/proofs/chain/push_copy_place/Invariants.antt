use Rattle.std.proofs.Common.{}
use Rattle.std.specs.List.{range_with_len, flat_map}
use Rattle.clause_core.specs.Clauses.{Appends}
use Rattle.enc_theory.specs.Select.{copy_row}
use Rattle.enc_select.proofs.chain.push_copy_place.Given as goal

abbrev pub invariant-loop-row : goal.invariant-loop-row
invariant-loop-row l = Appends l.initial.list l.list (flat_map (copy_row l.z l.side l.step l.place) (range_with_len 0 l.row))
