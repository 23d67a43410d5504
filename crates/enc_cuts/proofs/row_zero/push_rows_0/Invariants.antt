use Rattle.std.proofs.Common.{◌+◌, ◌-◌}
use Rattle.std.specs.List.{flat_map, range_with_len}
use Rattle.clause_core.specs.Clauses.{Appends}
use Rattle.enc_theory.specs.Cuts.{row_0_at}
use Rattle.enc_cuts.proofs.row_zero.push_rows_0.Given as goal

abbrev pub invariant-loop-i : goal.invariant-loop-i
invariant-loop-i l = Appends l.initial.list l.list (flat_map (row_0_at l.z) (range_with_len (l.z.n + 1) (l.i - (l.z.n + 1))))
