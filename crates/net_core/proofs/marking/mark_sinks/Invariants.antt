use Rattle.std.proofs.Common.{◌≡◌, length}
use Rattle.std.specs.List.{All}
use Rattle.net_theory.specs.Net.{IsSigBelow}
use Rattle.net_core.specs.Marks.{set_of, sink_marks}
use Rattle.net_core.proofs.marking.mark_sinks.Given as goal

abbrev pub invariant-loop-sink : goal.invariant-loop-sink
invariant-loop-sink l = record {
  marks : sink_marks (set_of l.marks) l.left ≡ sink_marks (set_of l.initial.marks) l.sinks;
  below : All (IsSigBelow (length l.marks)) l.left;
}

abbrev pub decreases-loop-sink : goal.decreases-loop-sink
decreases-loop-sink l = length l.left
