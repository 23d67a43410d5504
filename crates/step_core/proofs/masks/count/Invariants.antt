use Rattle.std.proofs.Common.{◌≡◌, ◌≤◌}
use Rattle.chain_theory.specs.Operator.{digit}
use Rattle.bound_core.specs.Counts.{count_below}
use Rattle.step_core.proofs.masks.count.Given as goal

abbrev pub invariant-loop-number : goal.invariant-loop-number
invariant-loop-number l = record {
  count : l.count ≡ count_below (digit l.mask) l.number;
  few : l.count ≤ l.number;
}
