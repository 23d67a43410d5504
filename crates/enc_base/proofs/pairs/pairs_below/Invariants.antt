use Rattle.std.proofs.Common.{◌≡◌, ◌-◌}
use Rattle.std.specs.List.{range_with_len, flat_map}
use Rattle.enc_theory.specs.Pairs.{pairs_with}
use Rattle.enc_base.proofs.pairs.pairs_below.Given as goal

abbrev pub invariant-loop-large : goal.invariant-loop-large
invariant-loop-large l = l.pairs.items ≡ flat_map (pairs_with l.ordered) (range_with_len 1 (l.large - 1))
