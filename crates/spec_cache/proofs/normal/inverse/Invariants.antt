use Rattle.spec_cache.specs.Permuting.{AreEach, IsBackOf}
use Rattle.spec_cache.proofs.normal.inverse.Given as goal

abbrev pub invariant-loop-before : goal.invariant-loop-before
invariant-loop-before l = AreEach (IsBackOf l.order) l.back.items l.before
