use Rattle.std.proofs.Common.{◌≡◌, ◌+◌, false}
use Rattle.tt_core.specs.Words.{specification}
use Rattle.bound_core.specs.Counts.{some_below, live_compatible}
use Rattle.bound_core.proofs.bound.is_new.Given as goal

abbrev pub invariant-loop-earlier : goal.invariant-loop-earlier
invariant-loop-earlier l = some_below (live_compatible (specification l.spec) (l.before + 1)) l.earlier ≡ false
