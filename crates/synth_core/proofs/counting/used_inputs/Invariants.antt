use Rattle.std.proofs.Common.{◌≡◌, ◌≤◌}
use Rattle.tt_core.specs.Words.{specification}
use Rattle.bound_core.specs.Counts.{count_below}
use Rattle.synth_core.specs.UsedInputs.{is_used}
use Rattle.synth_core.proofs.counting.used_inputs.Given as goal

abbrev pub invariant-loop-before : goal.invariant-loop-before
invariant-loop-before l = record {
  count : l.count ≡ count_below (is_used (specification l.spec)) l.before;
  few : l.count ≤ l.before;
}
