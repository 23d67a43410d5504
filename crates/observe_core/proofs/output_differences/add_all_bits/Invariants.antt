use Rattle.std.proofs.Common.{◌≡◌, length}
use Rattle.lane_sim.specs.Above.{BeginsWithWords}
use Rattle.observe_core.specs.Forcing.{Distinguish}
use Rattle.observe_core.proofs.output_differences.add_all_bits.Given as goal

abbrev pub invariant-loop-bits : goal.invariant-loop-bits
invariant-loop-bits l = Distinguish l.forced l.bits l.differ × (length l.differ ≡ length l.initial.differ) × BeginsWithWords l.forced.fanin_cone.now l.words
