use Rattle.std.proofs.Common.{◌≡◌, length}
use Rattle.step_core.specs.Outs.{AreOuts}
use Rattle.step_core.proofs.outs.outs_for.Given as goal

abbrev pub invariant-loop-before : goal.invariant-loop-before
invariant-loop-before l = record {
  count : length l.outs.items ≡ l.before;
  each : AreOuts l.spec l.stack.steps l.outs.items;
}
