use Rattle.std.proofs.Common.{◌≡◌, ◌+◌, ◌++◌, length}
use Rattle.enc_theory.specs.Pairs.{numbered}
use Rattle.enc_base.proofs.layout.number.Given as goal

abbrev pub invariant-loop-pair : goal.invariant-loop-pair
invariant-loop-pair l = record {
  same : l.slots.items ++ numbered l.var l.left ≡ numbered l.first l.pairs;
  var : l.var + length l.left ≡ l.first + length l.pairs;
  count : length l.slots.items + length l.left ≡ length l.pairs;
}

abbrev pub decreases-loop-pair : goal.decreases-loop-pair
decreases-loop-pair l = length l.left
