use Rattle.std.proofs.Common.{◌≡◌, vec_len}
use Rattle.net_theory.specs.Net.{end_of}
use Rattle.net_core.specs.Marks.{nodes_of}
use Rattle.move_check.specs.Sinks.{IsSinkMap}
use Rattle.move_check.proofs.sinks.sink_map.Given as goal

abbrev pub invariant-loop-index : goal.invariant-loop-index
invariant-loop-index l = record {
  map : IsSinkMap l.sources (end_of l.candidate) (nodes_of l.nodes.items);
  count : vec_len l.nodes ≡ end_of l.net;
}
