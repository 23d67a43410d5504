use Rattle.std.proofs.Common.{take}
use Rattle.std.specs.List.{flat_map}
use Rattle.clause_core.specs.Clauses.{Appends}
use Rattle.enc_theory.specs.Cuts.{exchange_slot}
use Rattle.enc_cuts.proofs.exchange.push_exchange_slots.Given as goal

abbrev pub invariant-loop-slot : goal.invariant-loop-slot
invariant-loop-slot l = Appends l.initial.list l.list (flat_map (exchange_slot l.p l.q l.before) (take l.slot-index l.slots))
