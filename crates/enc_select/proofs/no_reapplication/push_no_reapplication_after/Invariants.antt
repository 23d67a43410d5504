use Rattle.std.proofs.Common.{◌-◌}
use Rattle.std.specs.List.{range_with_len, flat_map}
use Rattle.clause_core.specs.Clauses.{Appends}
use Rattle.enc_theory.specs.Select.{no_reapplication_from}
use Rattle.enc_select.proofs.no_reapplication.push_no_reapplication_after.Given as goal

abbrev pub invariant-loop-first : goal.invariant-loop-first
invariant-loop-first l = Appends l.initial.list l.list (flat_map (no_reapplication_from l.ordered l.z l.step l.later) (range_with_len 1 (l.first - 1)))
