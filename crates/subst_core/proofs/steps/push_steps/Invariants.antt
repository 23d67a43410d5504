use Rattle.std.proofs.Common.{◌≡◌, ◌++◌, map, take}
use Rattle.chain_core.specs.Steps.{steps_of}
use Rattle.net_core.specs.Marks.{nodes_of}
use Rattle.subst_core.specs.Placing.{chain_gate}
use Rattle.subst_core.proofs.steps.push_steps.Given as goal

abbrev pub invariant-loop-step : goal.invariant-loop-step
invariant-loop-step l = l.gates.items ≡ l.initial.gates.items ++ map (chain_gate (nodes_of l.nodes) l.inputs l.first) (steps_of (take l.step-index l.steps))
