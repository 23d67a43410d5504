use Rattle.std.proofs.Common.{◌≡◌, ◌+◌}
use Rattle.aiger_binary.specs.Ascii.{inputs_in}
use Rattle.aiger_binary.proofs.sections.push_inputs.Given as goal

abbrev pub invariant-loop-left : goal.invariant-loop-left
invariant-loop-left l = record {
  same : inputs_in l.variable l.left l.out.items ≡ inputs_in 1 l.count l.initial.out.items;
  sum : l.variable + l.left ≡ 1 + l.count;
}

abbrev pub decreases-loop-left : goal.decreases-loop-left
decreases-loop-left l = l.left
