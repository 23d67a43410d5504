use Rattle.std.proofs.Common.{take}
use Rattle.std.specs.List.{flat_map}
use Rattle.clause_core.specs.Clauses.{Appends}
use Rattle.enc_theory.specs.Cuts.{no_reapplication_pair}
use Rattle.enc_cuts.proofs.no_reapplication.push_no_reapplication_slot.Given as goal

abbrev pub invariant-loop-v : goal.invariant-loop-v
invariant-loop-v l = Appends l.initial.list l.list (flat_map (no_reapplication_pair l.place l.u) (take l.v-index l.reading))
