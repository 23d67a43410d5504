use Rattle.std.proofs.Common.{◌≡◌, length}
use Rattle.sat_theory.specs.Formula.{bits_of}
use Rattle.enc_theory.specs.Decode.{first_pair}
use Rattle.enc_base.proofs.decoding.first_pair.Given as goal

abbrev pub invariant-loop-slot : goal.invariant-loop-slot
invariant-loop-slot l = first_pair (bits_of l.bits) l.left ≡ first_pair (bits_of l.bits) l.slots

abbrev pub decreases-loop-slot : goal.decreases-loop-slot
decreases-loop-slot l = length l.left
