use Rattle.std.proofs.Common.{◌-◌}
use Rattle.std.specs.List.{flat_map, range_with_len}
use Rattle.clause_core.specs.Clauses.{Appends}
use Rattle.enc_theory.specs.Cuts.{exchange_with}
use Rattle.enc_cuts.proofs.exchange.push_exchange.Given as goal

abbrev pub invariant-loop-p : goal.invariant-loop-p
invariant-loop-p l = Appends l.initial.list l.list (flat_map (exchange_with l.spec l.steps) (range_with_len 1 (l.p - 1)))
