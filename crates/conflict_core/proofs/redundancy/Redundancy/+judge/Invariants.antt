use Rattle.std.proofs.Common.{◌≡◌, length}
use Rattle.conflict_core.proofs.redundancy.Redundancy.+judge.Given as goal

abbrev pub decreases-judge : goal.decreases-judge
decreases-judge l = l.depth

abbrev pub invariant-loop-other : goal.invariant-loop-other
invariant-loop-other l = length l.self.verdicts.items ≡ length l.initial.self.verdicts.items
