use Rattle.std.proofs.Common.{◌≡◌, ◌++◌, length, map}
use Rattle.indexmap.specs.IndexMap.{get}
use Rattle.net_theory.specs.Document.{is_same, latch_input}
use Rattle.net_theory.specs.NetOf.{signal_of}
use Rattle.net_build.proofs.signals.push_latch_signals.Given as goal

abbrev pub invariant-loop-latch : goal.invariant-loop-latch
invariant-loop-latch l = l.found.items ++ map (signal_of (get is_same l.signals)) (map latch_input l.left) ≡
    l.initial.found.items ++ map (signal_of (get is_same l.signals)) (map latch_input l.latches)

abbrev pub decreases-loop-latch : goal.decreases-loop-latch
decreases-loop-latch l = length l.left
