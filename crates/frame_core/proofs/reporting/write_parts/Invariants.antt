use Rattle.std.proofs.Common.{◌≡◌, ◌≤◌, length}
use Rattle.frame_core.specs.Views.{texts_of}
use Rattle.frame_core.specs.PiecesLaws.{IsWriting}
use Rattle.frame_core.proofs.reporting.write_parts.Given as goal

-- What this call has written is a prefix of the texts.
abbrev pub invariant-loop-part : goal.invariant-loop-part
invariant-loop-part g l = record {
  writing : IsWriting (g.N.Sink.written l.initial.note) (g.N.Sink.written l.note) (texts_of l.parts) (texts_of l.left);
  never_falls : g.N.Sink.faults l.initial.note ≤ g.N.Sink.faults l.note;
  faultless : g.N.Sink.faults l.note ≡ g.N.Sink.faults l.initial.note;
}

abbrev pub decreases-loop-part : goal.decreases-loop-part
decreases-loop-part g l = length l.left
