use Rattle.std.proofs.Common.{take, All}
use Rattle.subsume_core.specs.Inside.{IsApart}
use Rattle.subsume_core.proofs.newness.are_apart.Given as goal

abbrev pub invariant-loop-lit : goal.invariant-loop-lit
invariant-loop-lit l = All (IsApart l.clauses l.units l.lits) (take l.lit-index l.lits)
