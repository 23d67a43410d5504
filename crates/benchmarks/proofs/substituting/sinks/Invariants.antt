use Rattle.std.specs.List.{All}
use Rattle.net_theory.specs.Net.{IsSigBelow}
use Rattle.benchmarks.proofs.substituting.sinks.Given as goal

abbrev pub invariant-loop-index : goal.invariant-loop-index
invariant-loop-index l = All (IsSigBelow l.end) l.sinks.items
