use Rattle.std.proofs.Common.{◌≡◌, ◌++◌, take}
use Rattle.std.specs.List.{flat_map}
use Rattle.enc_theory.specs.Cuts.{reader_without}
use Rattle.enc_cuts.proofs.exchange.push_readers_without.Given as goal

abbrev pub invariant-loop-slot : goal.invariant-loop-slot
invariant-loop-slot l = l.raws.items ≡ l.initial.raws.items ++ flat_map (reader_without l.p l.q) (take l.slot-index l.step.slots)
