use Rattle.std.proofs.Common.{take}
use Rattle.std.specs.List.{flat_map}
use Rattle.clause_core.specs.Clauses.{Appends}
use Rattle.enc_theory.specs.Cuts.{no_reapplication_later}
use Rattle.enc_cuts.proofs.no_reapplication.push_no_reapplication_by.Given as goal

abbrev pub invariant-loop-other : goal.invariant-loop-other
invariant-loop-other l = Appends l.initial.list l.list (flat_map (no_reapplication_later l.step) (take l.other-index l.later))
