use Rattle.std.proofs.Common.{◌≡◌, ◌++◌, length}
use Rattle.net_document.specs.Refusals.{repeated}
use Rattle.net_build.proofs.checks.add_drivers.Given as goal

abbrev pub invariant-loop-driver : goal.invariant-loop-driver
invariant-loop-driver l = record {
  first : repeated l.set.keys l.left ≡ repeated l.initial.set.keys l.names;
  all : l.set.keys ++ l.left ≡ l.initial.set.keys ++ l.names;
}

abbrev pub decreases-loop-driver : goal.decreases-loop-driver
decreases-loop-driver l = length l.left
