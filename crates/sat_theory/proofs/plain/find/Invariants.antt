use Rattle.std.proofs.Common.{◌≡◌, length}
use Rattle.sat_theory.specs.Plain.{live_in}
use Rattle.sat_theory.proofs.plain.find.Given as goal

abbrev pub invariant-loop-clause : goal.invariant-loop-clause
invariant-loop-clause l = live_in l.left l.id ≡ live_in l.clauses l.id

abbrev pub decreases-loop-clause : goal.decreases-loop-clause
decreases-loop-clause l = length l.left
