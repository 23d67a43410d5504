use Rattle.std.proofs.Common.{◌≡◌, ◌+◌}
use Rattle.aiger_binary.specs.Ascii.{stage, latches_in}
use Rattle.aiger_binary.proofs.sections.push_latches.Given as goal

abbrev pub invariant-loop-left : goal.invariant-loop-left
invariant-loop-left l = record {
  same : latches_in l.variable l.left (stage l.out.items l.rest) ≡ latches_in l.first l.count (stage l.initial.out.items l.bytes);
  sum : l.variable + l.left ≡ l.first + l.count;
}

abbrev pub decreases-loop-left : goal.decreases-loop-left
decreases-loop-left l = l.left
