use Rattle.std.proofs.Common.{take}
use Rattle.std.specs.List.{flat_map}
use Rattle.clause_core.specs.Clauses.{Appends}
use Rattle.strong_theory.specs.Strong.{edge_step}
use Rattle.enc_strong.proofs.differences.push_edge_steps.Given as goal

abbrev pub invariant-loop-step : goal.invariant-loop-step
invariant-loop-step l = Appends l.initial.list l.list (flat_map (edge_step l.z l.steps l.at.edge l.at.before) (take l.step-index l.steps))
