use Rattle.std.proofs.Common.{◌≡◌, ◌≤◌, length}
use Rattle.net_core.specs.Names.{AreFirsts}
use Rattle.net_core.proofs.naming.note_outputs.Given as goal

abbrev pub invariant-loop-at : goal.invariant-loop-at
invariant-loop-at l = record {
  within : l.at ≤ length l.outputs;
  firsts : AreFirsts l.firsts l.outputs l.at l.sinks;
  count : length l.firsts ≡ length l.initial.firsts;
}

abbrev pub decreases-loop-at : goal.decreases-loop-at
decreases-loop-at l = l.at
