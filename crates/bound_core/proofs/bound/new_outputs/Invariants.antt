use Rattle.std.proofs.Common.{◌≡◌, ◌≤◌}
use Rattle.tt_core.specs.Words.{specification}
use Rattle.bound_core.specs.Counts.{count_below, is_new}
use Rattle.bound_core.proofs.bound.new_outputs.Given as goal

abbrev pub invariant-loop-before : goal.invariant-loop-before
invariant-loop-before l = record {
  count : l.count ≡ count_below (is_new (specification l.spec)) l.before;
  few : l.count ≤ l.before;
}
