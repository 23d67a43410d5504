use Rattle.std.proofs.Common.{◌≡◌, map}
use Rattle.net_theory.specs.Document.{latch_of}
use Rattle.net_build.proofs.circuits.latches_of.Given as goal

abbrev pub invariant-loop-line : goal.invariant-loop-line
invariant-loop-line l = l.latches.items ≡ map latch_of l.yielded
