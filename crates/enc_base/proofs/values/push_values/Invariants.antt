use Rattle.std.proofs.Common.{take}
use Rattle.std.specs.List.{flat_map}
use Rattle.clause_core.specs.Clauses.{Appends}
use Rattle.enc_theory.specs.Families.{value_step}
use Rattle.enc_base.proofs.values.push_values.Given as goal

abbrev pub invariant-loop-step : goal.invariant-loop-step
invariant-loop-step l = Appends l.initial.list l.list (flat_map (value_step l.z) (take l.step-index l.steps))
