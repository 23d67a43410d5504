use Rattle.std.proofs.Common.{◌+◌, ◌-◌}
use Rattle.std.specs.List.{range_with_len, flat_map}
use Rattle.clause_core.specs.Clauses.{Appends}
use Rattle.enc_theory.specs.Select.{rising_step}
use Rattle.enc_select.proofs.descents.push_operands_ordered.Given as goal

abbrev pub invariant-loop-step : goal.invariant-loop-step
invariant-loop-step l = Appends l.initial.list l.list (flat_map (rising_step l.z) (range_with_len (l.z.n + 1) (l.step - (l.z.n + 1))))
