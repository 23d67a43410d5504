use Rattle.std.proofs.Common.{◌≡◌, ◌++◌, take}
use Rattle.std.specs.List.{flat_map}
use Rattle.enc_theory.specs.Cuts.{equal_pair}
use Rattle.enc_cuts.proofs.trivial.push_equal_pairs.Given as goal

abbrev pub invariant-loop-slot : goal.invariant-loop-slot
invariant-loop-slot l = l.raws.items ≡ l.initial.raws.items ++ flat_map (equal_pair) (take l.slot-index l.slots)
