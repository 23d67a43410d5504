use Rattle.std.proofs.Common.{◌≡◌, ◌-◌, ◌≤◌, length, take}
use Rattle.port_io.specs.Bytes.{Appends}
use Rattle.port_io.proofs.writing.write_all.Given as goal

-- What this call has written is a prefix of the bytes.
abbrev pub invariant-loop-at : goal.invariant-loop-at
invariant-loop-at g l = record {
  within : l.at ≤ length l.bytes;
  gone : Appends (g.O.Sink.written l.initial.sink) (g.O.Sink.written l.sink) (take l.at l.bytes);
  never_falls : g.O.Sink.faults l.initial.sink ≤ g.O.Sink.faults l.sink;
  faultless : g.O.Sink.faults l.sink ≡ g.O.Sink.faults l.initial.sink;
}

abbrev pub decreases-loop-at : goal.decreases-loop-at
decreases-loop-at g l = length l.bytes - l.at
