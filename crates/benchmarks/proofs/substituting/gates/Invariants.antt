use Rattle.std.proofs.Common.{◌≡◌, vec_len}
use Rattle.net_theory.specs.Net.{AreGates}
use Rattle.benchmarks.proofs.substituting.gates.Given as goal

abbrev pub invariant-loop-index : goal.invariant-loop-index
invariant-loop-index l = record {
  gates : AreGates l.sources l.gates.items;
  count : vec_len l.gates ≡ l.index;
}
