use Rattle.std.proofs.Common.{◌≡◌, length}
use Rattle.spec_cache.proofs.normal.weights.Given as goal

abbrev pub invariant-loop-before : goal.invariant-loop-before
invariant-loop-before l = length l.weights.items ≡ l.before
