use Rattle.std.proofs.Common.{◌≡◌, ◌-◌}
use Rattle.std.specs.List.{range_with_len}
use Rattle.sat_theory.specs.Formula.{bits_of}
use Rattle.enc_theory.specs.Select.{below, first_choice}
use Rattle.enc_select.proofs.decoding.first_choice.Given as goal

abbrev pub invariant-loop-j : goal.invariant-loop-j
invariant-loop-j l = first_choice l.z (bits_of l.bits) l.side l.i (range_with_len l.j (l.i - l.j)) ≡ first_choice l.z (bits_of l.bits) l.side l.i (below l.i)
