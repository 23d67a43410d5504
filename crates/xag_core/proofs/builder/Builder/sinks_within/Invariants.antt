-- There are as many sinks as literals so far, each of a node of the graph.
use Rattle.std.proofs.Common.{◌≡◌, ◌+◌, length}
use Rattle.std.specs.Prelude.{All}
use Rattle.xag_core.specs.Xag.{IsLiteralBelow}
use Rattle.xag_core.proofs.builder.Builder.sinks_within.Given as goal

abbrev pub invariant-loop-literal : goal.invariant-loop-literal
invariant-loop-literal l = record {
  count : length l.sinks.items ≡ l.literal-index;
  below : All (IsLiteralBelow (l.self.sources + 1 + length l.self.gates)) l.sinks.items;
}
