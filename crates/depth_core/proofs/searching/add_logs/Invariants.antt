-- The logs so far come after the others.
use Rattle.std.proofs.Common.{◌≡◌, ◌++◌}
use Rattle.depth_core.proofs.searching.add_logs.Given as goal

abbrev pub invariant-loop-log : goal.invariant-loop-log
invariant-loop-log l = l.logs.items ≡ l.initial.logs.items ++ l.yielded
