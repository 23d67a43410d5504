use Rattle.std.proofs.Common.{}
use Rattle.std.specs.List.{range_with_len, flat_map}
use Rattle.clause_core.specs.Clauses.{Appends}
use Rattle.enc_theory.specs.Families.{out_value}
use Rattle.enc_base.proofs.families.push_out_values_of.Given as goal

abbrev pub invariant-loop-t : goal.invariant-loop-t
invariant-loop-t l = Appends l.initial.list l.list (flat_map (out_value l.spec l.z l.h l.i) (range_with_len 0 l.t))
