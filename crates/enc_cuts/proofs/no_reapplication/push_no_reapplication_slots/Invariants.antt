use Rattle.std.proofs.Common.{take}
use Rattle.std.specs.List.{flat_map}
use Rattle.clause_core.specs.Clauses.{Appends}
use Rattle.enc_theory.specs.Cuts.{no_reapplication_slot}
use Rattle.enc_cuts.proofs.no_reapplication.push_no_reapplication_slots.Given as goal

abbrev pub invariant-loop-u : goal.invariant-loop-u
invariant-loop-u l = Appends l.initial.list l.list (flat_map (no_reapplication_slot l.place l.reading) (take l.u-index l.slots))
