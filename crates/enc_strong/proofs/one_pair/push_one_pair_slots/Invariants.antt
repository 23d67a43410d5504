use Rattle.std.proofs.Common.{take}
use Rattle.std.specs.List.{flat_map}
use Rattle.clause_core.specs.Clauses.{Appends}
use Rattle.strong_theory.specs.Strong.{one_pair_slot}
use Rattle.enc_strong.proofs.one_pair.push_one_pair_slots.Given as goal

abbrev pub invariant-loop-u : goal.invariant-loop-u
invariant-loop-u l = Appends l.initial.list l.list (flat_map (one_pair_slot l.slots) (take l.u-index l.slots))
