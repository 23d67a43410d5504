use Rattle.std.proofs.Common.{}
use Rattle.std.specs.List.{range_with_len, flat_map}
use Rattle.clause_core.specs.Clauses.{Appends}
use Rattle.enc_theory.specs.Select.{result_row}
use Rattle.enc_select.proofs.chain.push_result_step.Given as goal

abbrev pub invariant-loop-t : goal.invariant-loop-t
invariant-loop-t l = Appends l.initial.list l.list (flat_map (result_row l.z l.i) (range_with_len 0 l.t))
