use Rattle.std.proofs.Common.{◌≡◌, ◌+◌, ◌<◌, ◌^◌, length, vec_len}
use Rattle.net_theory.specs.Moving.{kept_after, marked_count}
use Rattle.net_core.specs.Marks.{set_of, kept, AreAt}
use Rattle.net_core.proofs.keeping.keep_gates.Given as goal

abbrev pub invariant-loop-gate : goal.invariant-loop-gate
invariant-loop-gate l = record {
  kept : kept_after (set_of l.marks) l.sources (kept l.nodes l.new.items) l.node l.left ≡ kept_after (set_of l.marks) l.sources (kept l.initial.nodes l.initial.new.items) l.first l.gates;
  stand : AreAt l.node l.left;
  marks : l.node + length l.left ≡ length l.marks;
  nodes : length l.nodes ≡ length l.marks;
  room : l.sources + vec_len l.new + marked_count (set_of l.marks) l.node l.left < 2 ^ 31;
}

abbrev pub decreases-loop-gate : goal.decreases-loop-gate
decreases-loop-gate l = length l.left
