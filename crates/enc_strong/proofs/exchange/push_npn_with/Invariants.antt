use Rattle.std.proofs.Common.{◌+◌, ◌-◌}
use Rattle.std.specs.List.{flat_map, range_with_len}
use Rattle.clause_core.specs.Clauses.{Appends}
use Rattle.npn_strong.specs.Cut.{npn_pair}
use Rattle.enc_strong.proofs.exchange.push_npn_with.Given as goal

abbrev pub invariant-loop-q : goal.invariant-loop-q
invariant-loop-q l = Appends l.initial.list l.list (flat_map (npn_pair l.spec l.steps l.p) (range_with_len (l.p + 1) (l.q - (l.p + 1))))
