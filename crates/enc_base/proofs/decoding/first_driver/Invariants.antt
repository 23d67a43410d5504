use Rattle.std.proofs.Common.{◌≡◌, ◌-◌}
use Rattle.std.specs.List.{range_with_len}
use Rattle.sat_theory.specs.Formula.{bits_of}
use Rattle.enc_theory.specs.Numbering.{places}
use Rattle.enc_theory.specs.Decode.{first_driver}
use Rattle.enc_base.proofs.decoding.first_driver.Given as goal

abbrev pub invariant-loop-place : goal.invariant-loop-place
invariant-loop-place l = first_driver l.z (bits_of l.bits) l.h (range_with_len l.place (l.place-end - l.place)) ≡ first_driver l.z (bits_of l.bits) l.h (places l.z)
