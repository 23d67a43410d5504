use Rattle.std.proofs.Common.{◌≡◌, ◌+◌, ◌-◌}
use Rattle.tt_core.specs.Live.{inputs_from, first_fit, trivial_of}
use Rattle.tt_core.specs.Words.{specification}
use Rattle.tt_core.proofs.live.trivial.Given as goal

abbrev pub invariant-loop-j : goal.invariant-loop-j
invariant-loop-j l = first_fit (specification l.spec) l.h (inputs_from l.j (l.spec.n + 1 - l.j)) ≡ trivial_of (specification l.spec) l.h
