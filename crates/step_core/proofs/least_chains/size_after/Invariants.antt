use Rattle.std.proofs.Common.{◌≡◌, []}
use Rattle.step_core.proofs.least_chains.size_after.Given as goal

abbrev pub invariant-loop-size : goal.invariant-loop-size
invariant-loop-size l = record {
  inputs : l.stack.n ≡ l.live.n;
  empty : l.stack.steps ≡ [];
}
