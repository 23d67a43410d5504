use Rattle.std.proofs.Common.{◌≡◌, ◌+◌, false}
use Rattle.tt_core.specs.Words.{specification}
use Rattle.bound_core.specs.Counts.{some_below, live_uses}
use Rattle.bound_core.proofs.bound.is_in_use.Given as goal

abbrev pub invariant-loop-output : goal.invariant-loop-output
invariant-loop-output l = some_below (live_uses (specification l.spec) (l.before + 1)) l.output ≡ false
