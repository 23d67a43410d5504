use Rattle.std.proofs.Common.{◌≡◌, ◌++◌, length, map}
use Rattle.indexmap.specs.IndexMap.{get}
use Rattle.net_theory.specs.Document.{is_same}
use Rattle.net_theory.specs.NetOf.{signal_of}
use Rattle.net_build.proofs.signals.push_signals.Given as goal

abbrev pub invariant-loop-name : goal.invariant-loop-name
invariant-loop-name l = l.found.items ++ map (signal_of (get is_same l.signals)) l.left ≡ l.initial.found.items ++ map (signal_of (get is_same l.signals)) l.names

abbrev pub decreases-loop-name : goal.decreases-loop-name
decreases-loop-name l = length l.left
