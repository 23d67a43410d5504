use Rattle.std.proofs.Common.{take}
use Rattle.std.specs.List.{flat_map}
use Rattle.clause_core.specs.Clauses.{Appends}
use Rattle.strong_theory.specs.Strong.{one_of}
use Rattle.enc_strong.proofs.one_pair.push_one_pair_slot.Given as goal

abbrev pub invariant-loop-v : goal.invariant-loop-v
invariant-loop-v l = Appends l.initial.list l.list (flat_map (one_of l.u) (take l.v-index l.slots))
