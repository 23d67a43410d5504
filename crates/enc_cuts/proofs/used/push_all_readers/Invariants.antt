use Rattle.std.proofs.Common.{◌≡◌, ◌++◌, take}
use Rattle.std.specs.List.{flat_map}
use Rattle.enc_theory.specs.Cuts.{readers}
use Rattle.enc_cuts.proofs.used.push_all_readers.Given as goal

abbrev pub invariant-loop-step : goal.invariant-loop-step
invariant-loop-step l = l.raws.items ≡ l.initial.raws.items ++ flat_map (readers l.place) (take l.step-index l.steps)
