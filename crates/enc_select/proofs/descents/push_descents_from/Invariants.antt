use Rattle.std.proofs.Common.{◌-◌}
use Rattle.std.specs.List.{range_with_len, flat_map}
use Rattle.clause_core.specs.Clauses.{Appends}
use Rattle.enc_select.specs.Descents.{descent}
use Rattle.enc_select.proofs.descents.push_descents_from.Given as goal

abbrev pub invariant-loop-l : goal.invariant-loop-l
invariant-loop-l l = Appends l.initial.list l.list (flat_map (descent l.z l.own.side l.own.step l.other.side l.other.step l.k) (range_with_len 1 (l.l - 1)))
