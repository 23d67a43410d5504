use Rattle.std.proofs.Common.{◌≡◌, ◌++◌, take}
use Rattle.std.specs.List.{flat_map}
use Rattle.strong_theory.specs.Strong.{other_readers}
use Rattle.enc_strong.proofs.edge_steps.push_all_other_readers.Given as goal

abbrev pub invariant-loop-step : goal.invariant-loop-step
invariant-loop-step l = l.raws.items ≡ l.initial.raws.items ++ flat_map (other_readers l.i l.j) (take l.step-index l.steps)
