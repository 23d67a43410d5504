use Rattle.std.proofs.Common.{take}
use Rattle.std.specs.List.{flat_map}
use Rattle.clause_core.specs.Clauses.{Appends}
use Rattle.enc_theory.specs.Cuts.{order_pair}
use Rattle.enc_cuts.proofs.order.push_order_slot.Given as goal

abbrev pub invariant-loop-v : goal.invariant-loop-v
invariant-loop-v l = Appends l.initial.list l.list (flat_map (order_pair l.u) (take l.v-index l.next))
