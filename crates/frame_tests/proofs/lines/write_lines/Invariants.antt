use Rattle.std.specs.Prelude.{map}
use Rattle.std.proofs.Common.{◌≡◌, ◌≤◌, length}
use Rattle.frame_core.specs.PiecesLaws.{IsWriting}
use Rattle.frame_tests.specs.Small.{line_of}
use Rattle.frame_tests.proofs.lines.write_lines.Given as goal

-- What this call has written is a prefix of the lines.
abbrev pub invariant-loop-byte : goal.invariant-loop-byte
invariant-loop-byte g l = record {
  writing : IsWriting (g.O.Sink.written l.initial.out) (g.O.Sink.written l.out) (map line_of l.bytes) (map line_of l.left);
  never_falls : g.O.Sink.faults l.initial.out ≤ g.O.Sink.faults l.out;
  faultless : g.O.Sink.faults l.out ≡ g.O.Sink.faults l.initial.out;
}

abbrev pub decreases-loop-byte : goal.decreases-loop-byte
decreases-loop-byte g l = length l.left
