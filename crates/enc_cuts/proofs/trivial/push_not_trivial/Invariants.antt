use Rattle.std.proofs.Common.{take}
use Rattle.std.specs.List.{flat_map}
use Rattle.clause_core.specs.Clauses.{Appends}
use Rattle.enc_theory.specs.Cuts.{not_trivial_at}
use Rattle.enc_cuts.proofs.trivial.push_not_trivial.Given as goal

abbrev pub invariant-loop-step : goal.invariant-loop-step
invariant-loop-step l = Appends l.initial.list l.list (flat_map (not_trivial_at l.constants l.basis l.z) (take l.step-index l.steps))
