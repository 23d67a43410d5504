use Rattle.std.proofs.Common.{◌≡◌, ◌-◌, [], length, All}
use Rattle.sat_theory.specs.Formula.{IsClause}
use Rattle.clause_core.specs.Clauses.{simplified, IsWithin}
use Rattle.clause_core.specs.Seen.{IsSeen}
use Rattle.clause_core.proofs.list.gather.Given as goal

abbrev pub invariant-loop-raw : goal.invariant-loop-raw
invariant-loop-raw l = record {
  same : simplified l.lits.items l.left ≡ simplified [] l.raws;
  clause : IsClause l.lits.items;
  seen : IsSeen l.seen l.lits.items;
  left : All (IsWithin (length l.initial.seen - 1)) l.left;
}

abbrev pub decreases-loop-raw : goal.decreases-loop-raw
decreases-loop-raw l = length l.left
