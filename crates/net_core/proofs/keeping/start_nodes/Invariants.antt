use Rattle.std.proofs.Common.{◌≡◌, map}
use Rattle.std.specs.List.{range_with_len}
use Rattle.net_theory.specs.Moving.{sources_stay}
use Rattle.net_core.proofs.keeping.start_nodes.Given as goal

abbrev pub invariant-loop-node : goal.invariant-loop-node
invariant-loop-node l = l.nodes.items ≡ map (sources_stay l.sources) (range_with_len 0 l.node)
