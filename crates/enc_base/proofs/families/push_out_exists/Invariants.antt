use Rattle.std.proofs.Common.{◌-◌}
use Rattle.std.specs.List.{range_with_len, flat_map}
use Rattle.clause_core.specs.Clauses.{Appends}
use Rattle.enc_theory.specs.Families.{out_exists_at}
use Rattle.enc_base.proofs.families.push_out_exists.Given as goal

abbrev pub invariant-loop-h : goal.invariant-loop-h
invariant-loop-h l = Appends l.initial.list l.list (flat_map (out_exists_at l.z) (range_with_len 1 (l.h - 1)))
