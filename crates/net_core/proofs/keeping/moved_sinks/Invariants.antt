use Rattle.std.proofs.Common.{◌≡◌, map, take}
use Rattle.net_theory.specs.Moving.{moved}
use Rattle.net_core.specs.Marks.{nodes_of}
use Rattle.net_core.proofs.keeping.moved_sinks.Given as goal

abbrev pub invariant-loop-sink : goal.invariant-loop-sink
invariant-loop-sink l = l.new.items ≡ map (moved (nodes_of l.nodes)) (take l.sink-index l.sinks)
