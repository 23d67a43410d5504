use Rattle.std.proofs.Common.{length}
use Rattle.sat_theory.specs.Holding.{among, HintsHold}
use Rattle.clause_db.specs.Stored.{live_in}
use Rattle.subsume_core.proofs.holding.hold_from.Given as goal

abbrev pub invariant-loop-hint : goal.invariant-loop-hint
invariant-loop-hint l = HintsHold (live_in l.clauses) (among l.set.items) l.left → HintsHold (live_in l.clauses) (among l.initial.set.items) l.hints

abbrev pub decreases-loop-hint : goal.decreases-loop-hint
decreases-loop-hint l = length l.left
