use Rattle.std.proofs.Common.{◌≡◌, ◌+◌, ◌++◌, All, length, map}
use Rattle.net_theory.specs.Net.{IsSigBelow, bit_of, sig_value}
use Rattle.equiv_values.proofs.simulating.signal_bits.Given as goal

abbrev pub invariant-loop-signal : goal.invariant-loop-signal
invariant-loop-signal l = record {
  below : All (IsSigBelow (length l.nodes + 1)) l.left;
  done : l.bits.items ++ map (sig_value (bit_of l.nodes)) l.left ≡ map (sig_value (bit_of l.nodes)) l.signals;
}

abbrev pub decreases-loop-signal : goal.decreases-loop-signal
decreases-loop-signal l = length l.left
