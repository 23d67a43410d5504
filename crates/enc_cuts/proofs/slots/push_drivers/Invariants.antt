use Rattle.std.proofs.Common.{◌≡◌, ◌++◌, ◌-◌, map}
use Rattle.std.specs.List.{range_with_len}
use Rattle.enc_theory.specs.Cuts.{drives}
use Rattle.enc_cuts.proofs.slots.push_drivers.Given as goal

abbrev pub invariant-loop-h : goal.invariant-loop-h
invariant-loop-h l = l.raws.items ≡ l.initial.raws.items ++ map (drives l.z l.place) (range_with_len 1 (l.h - 1))
