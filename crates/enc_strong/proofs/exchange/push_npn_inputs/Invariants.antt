use Rattle.std.proofs.Common.{◌-◌}
use Rattle.std.specs.List.{flat_map, range_with_len}
use Rattle.clause_core.specs.Clauses.{Appends}
use Rattle.npn_strong.specs.Cut.{npn_with}
use Rattle.enc_strong.proofs.exchange.push_npn_inputs.Given as goal

abbrev pub invariant-loop-p : goal.invariant-loop-p
invariant-loop-p l = Appends l.initial.list l.list (flat_map (npn_with l.spec l.steps) (range_with_len 1 (l.p - 1)))
