-- What was written to the output is the part of the certificate that the search has found.
use Rattle.std.proofs.Common.{ℕ, List, ◌+◌, ◌-◌, ◌≤◌, length}
use Rattle.settings.specs.declared.synth.SynthSettings.{SynthSettings}
use Rattle.frame_core.specs.Outside.{PortState, port_state}
use Rattle.cmd_lines.specs.TableLines.{most_of_tables}
use Rattle.cmd_synth.specs.SynthWriting.{IsOut}
use Rattle.cmd_synth.proofs.synth.write_sections.Given as goal

abbrev pub invariant-loop-next : goal.invariant-loop-next
invariant-loop-next g l = (settings : SynthSettings) (bytes : List ℕ) (first : PortState) →
    length bytes ≤ most_of_tables → IsOut settings bytes first
    (port_state g.O.Sink.written g.O.Sink.faults l.initial.out) l.fn.search →
    IsOut settings bytes first (port_state g.O.Sink.written g.O.Sink.faults l.out) l.search

abbrev pub decreases-loop-next : goal.decreases-loop-next
decreases-loop-next g l = l.search.header.max + 1 - l.search.next
