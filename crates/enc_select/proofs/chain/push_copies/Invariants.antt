use Rattle.std.proofs.Common.{◌+◌, ◌-◌}
use Rattle.std.specs.List.{range_with_len, flat_map}
use Rattle.clause_core.specs.Clauses.{Appends}
use Rattle.enc_theory.specs.Select.{copy_step}
use Rattle.enc_select.proofs.chain.push_copies.Given as goal

abbrev pub invariant-loop-i : goal.invariant-loop-i
invariant-loop-i l = Appends l.initial.list l.list (flat_map (copy_step l.z l.side) (range_with_len (l.z.n + 1) (l.i - (l.z.n + 1))))
