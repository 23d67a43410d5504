use Rattle.std.proofs.Common.{◌+◌, ◌-◌}
use Rattle.std.specs.List.{range_with_len, flat_map}
use Rattle.clause_core.specs.Clauses.{Appends}
use Rattle.enc_theory.specs.Families.{out_values_of}
use Rattle.enc_base.proofs.families.push_out_values_at.Given as goal

abbrev pub invariant-loop-i : goal.invariant-loop-i
invariant-loop-i l = Appends l.initial.list l.list (flat_map (out_values_of l.spec l.z l.h) (range_with_len (l.z.n + 1) (l.i - (l.z.n + 1))))
