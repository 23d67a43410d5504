use Rattle.std.proofs.Common.{take}
use Rattle.std.specs.List.{flat_map}
use Rattle.clause_core.specs.Clauses.{Appends}
use Rattle.enc_theory.specs.Cuts.{order_slot}
use Rattle.enc_cuts.proofs.order.push_order_slots.Given as goal

abbrev pub invariant-loop-u : goal.invariant-loop-u
invariant-loop-u l = Appends l.initial.list l.list (flat_map (order_slot l.next) (take l.u-index l.slots))
