use Rattle.spec_cache.specs.Permuting.{AreEach, IsRanked}
use Rattle.spec_cache.proofs.normal.ranked.Given as goal

abbrev pub invariant-loop-before : goal.invariant-loop-before
invariant-loop-before l = AreEach (IsRanked l.weights) l.order.items l.before
