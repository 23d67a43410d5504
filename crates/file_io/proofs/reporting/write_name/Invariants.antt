use Rattle.std.proofs.Common.{◌≤◌, length, map}
use Rattle.frame_core.specs.PiecesLaws.{IsWriting}
use Rattle.file_io.specs.FaultLine.{escaped_byte}
use Rattle.file_io.proofs.reporting.write_name.Given as goal

-- What this call has written is a prefix of the name.
abbrev pub invariant-loop-byte : goal.invariant-loop-byte
invariant-loop-byte g l = record {
  writing : IsWriting (g.N.Sink.written l.initial.note) (g.N.Sink.written l.note) (map escaped_byte l.name) (map escaped_byte l.left);
  never_falls : g.N.Sink.faults l.initial.note ≤ g.N.Sink.faults l.note;
}

abbrev pub decreases-loop-byte : goal.decreases-loop-byte
decreases-loop-byte g l = length l.left
