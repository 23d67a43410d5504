use Rattle.std.proofs.Common.{take}
use Rattle.std.specs.List.{flat_map}
use Rattle.clause_core.specs.Clauses.{Appends}
use Rattle.strong_theory.specs.Strong.{sole_reader}
use Rattle.enc_strong.proofs.edge_steps.push_sole_readers.Given as goal

abbrev pub invariant-loop-slot : goal.invariant-loop-slot
invariant-loop-slot l = Appends l.initial.list l.list (flat_map (sole_reader l.j l.rest) (take l.slot-index l.slots))
