use Rattle.std.proofs.Common.{take}
use Rattle.std.specs.List.{flat_map}
use Rattle.clause_core.specs.Clauses.{Appends}
use Rattle.enc_theory.specs.Families.{value_slot}
use Rattle.enc_base.proofs.values.push_value_step.Given as goal

abbrev pub invariant-loop-slot : goal.invariant-loop-slot
invariant-loop-slot l = Appends l.initial.list l.list (flat_map (value_slot l.z l.step.place) (take l.slot-index l.step.slots))
