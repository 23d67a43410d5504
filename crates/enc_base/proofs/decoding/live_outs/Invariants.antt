use Rattle.std.proofs.Common.{◌≡◌, ◌-◌, map}
use Rattle.std.specs.List.{range_with_len}
use Rattle.sat_theory.specs.Formula.{bits_of}
use Rattle.enc_theory.specs.Decode.{decoded_out}
use Rattle.enc_base.proofs.decoding.live_outs.Given as goal

abbrev pub invariant-loop-h : goal.invariant-loop-h
invariant-loop-h l = l.outs.items ≡ map (decoded_out l.z (bits_of l.bits)) (range_with_len 1 (l.h - 1))
