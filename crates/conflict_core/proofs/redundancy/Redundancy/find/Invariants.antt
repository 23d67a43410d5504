use Rattle.std.proofs.Common.{◌≡◌, length}
use Rattle.conflict_core.proofs.redundancy.Redundancy.find.Given as goal

abbrev pub invariant-loop-lit : goal.invariant-loop-lit
invariant-loop-lit l = length l.self.verdicts.items ≡ length l.initial.self.verdicts.items
