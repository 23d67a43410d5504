use Rattle.std.proofs.Common.{take}
use Rattle.std.specs.List.{flat_map}
use Rattle.clause_core.specs.Clauses.{Appends}
use Rattle.enc_theory.specs.Cuts.{equal_slot}
use Rattle.enc_cuts.proofs.trivial.push_equal_slots.Given as goal

abbrev pub invariant-loop-slot : goal.invariant-loop-slot
invariant-loop-slot l = Appends l.initial.list l.list (flat_map (equal_slot l.constants l.z l.step.place) (take l.slot-index l.step.slots))
