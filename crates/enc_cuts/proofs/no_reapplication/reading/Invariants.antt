use Rattle.std.proofs.Common.{◌≡◌, take}
use Rattle.enc_theory.specs.Cuts.{reading}
use Rattle.enc_cuts.proofs.no_reapplication.reading.Given as goal

abbrev pub invariant-loop-slot : goal.invariant-loop-slot
invariant-loop-slot l = l.kept.items ≡ reading l.place (take l.slot-index l.slots)
