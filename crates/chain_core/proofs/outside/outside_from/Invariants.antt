use Rattle.std.proofs.Common.{◌≡◌, ◌+◌, ◌^◌, ◌<◌, length}
use Rattle.op_basis.specs.Basis.{members}
use Rattle.chain_core.specs.Steps.{steps_of}
use Rattle.chain_core.specs.Outside as outside
use Rattle.chain_core.proofs.outside.outside_from.Given as goal

abbrev pub invariant-loop-step : goal.invariant-loop-step
invariant-loop-step l = record {
  search : outside.outside_from (members l.basis) l.place (steps_of l.left) ≡ outside.outside_from (members l.basis) l.first (steps_of l.steps);
  room : l.place + length l.left < 2 ^ 32;
}

abbrev pub decreases-loop-step : goal.decreases-loop-step
decreases-loop-step l = length l.left
