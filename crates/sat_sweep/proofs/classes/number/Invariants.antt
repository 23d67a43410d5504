use Rattle.std.proofs.Common.{◌≤◌}
use Rattle.indexmap.specs.IndexSet.{index_set_len}
use Rattle.sat_sweep.proofs.classes.number.Given as goal

abbrev pub invariant-loop-variable : goal.invariant-loop-variable
invariant-loop-variable l = index_set_len l.signatures ≤ l.variable
