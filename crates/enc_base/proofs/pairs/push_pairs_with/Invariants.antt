use Rattle.std.proofs.Common.{◌≡◌, ◌++◌, ◌-◌}
use Rattle.std.specs.List.{range_with_len, flat_map}
use Rattle.enc_theory.specs.Pairs.{pairs_of}
use Rattle.enc_base.proofs.pairs.push_pairs_with.Given as goal

abbrev pub invariant-loop-small : goal.invariant-loop-small
invariant-loop-small l = l.pairs.items ≡ l.initial.pairs.items ++ flat_map (pairs_of l.ordered l.large) (range_with_len 1 (l.small - 1))
