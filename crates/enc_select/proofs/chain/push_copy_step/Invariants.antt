use Rattle.std.proofs.Common.{◌-◌}
use Rattle.std.specs.List.{range_with_len, flat_map}
use Rattle.clause_core.specs.Clauses.{Appends}
use Rattle.enc_theory.specs.Select.{copy_place}
use Rattle.enc_select.proofs.chain.push_copy_step.Given as goal

abbrev pub invariant-loop-j : goal.invariant-loop-j
invariant-loop-j l = Appends l.initial.list l.list (flat_map (copy_place l.z l.side l.i) (range_with_len 1 (l.j - 1)))
