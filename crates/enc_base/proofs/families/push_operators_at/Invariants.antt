use Rattle.std.proofs.Common.{}
use Rattle.std.specs.List.{range_with_len, flat_map}
use Rattle.clause_core.specs.Clauses.{Appends}
use Rattle.enc_theory.specs.Families.{operator_clause}
use Rattle.enc_base.proofs.families.push_operators_at.Given as goal

abbrev pub invariant-loop-word : goal.invariant-loop-word
invariant-loop-word l = Appends l.initial.list l.list (flat_map (operator_clause l.basis l.z l.i) (range_with_len 0 l.word))
