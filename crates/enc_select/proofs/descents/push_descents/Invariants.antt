use Rattle.std.proofs.Common.{◌-◌}
use Rattle.std.specs.List.{range_with_len, flat_map}
use Rattle.clause_core.specs.Clauses.{Appends}
use Rattle.enc_select.specs.Descents.{descents_from}
use Rattle.enc_select.proofs.descents.push_descents.Given as goal

abbrev pub invariant-loop-k : goal.invariant-loop-k
invariant-loop-k l = Appends l.initial.list l.list (flat_map (descents_from l.z l.own.side l.own.step l.other.side l.other.step) (range_with_len 1 (l.k - 1)))
