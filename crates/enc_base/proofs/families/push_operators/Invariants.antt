use Rattle.std.proofs.Common.{◌+◌, ◌-◌}
use Rattle.std.specs.List.{range_with_len, flat_map}
use Rattle.clause_core.specs.Clauses.{Appends}
use Rattle.enc_theory.specs.Families.{operators_at}
use Rattle.enc_base.proofs.families.push_operators.Given as goal

abbrev pub invariant-loop-i : goal.invariant-loop-i
invariant-loop-i l = Appends l.initial.list l.list (flat_map (operators_at l.basis l.z) (range_with_len (l.z.n + 1) (l.i - (l.z.n + 1))))
