use Rattle.std.proofs.Common.{take}
use Rattle.std.specs.List.{flat_map}
use Rattle.clause_core.specs.Clauses.{Appends}
use Rattle.strong_theory.specs.Strong.{one_pair_step}
use Rattle.enc_strong.proofs.one_pair.push_one_pair.Given as goal

abbrev pub invariant-loop-step : goal.invariant-loop-step
invariant-loop-step l = Appends l.initial.list l.list (flat_map one_pair_step (take l.step-index l.steps))
