use Rattle.std.proofs.Common.{◌≡◌, length}
use Rattle.lrat_check.specs.LiteralMarks.{marked}
use Rattle.lrat_check.specs.Live.{live_at}
use Rattle.lrat_check.specs.Hints.{hints_fault}
use Rattle.lrat_check.proofs.hints.check_hints.Given as goal

abbrev pub invariant-loop-hint : goal.invariant-loop-hint
invariant-loop-hint l = record {
  same : hints_fault (live_at l.clauses) (marked l.marks) l.left ≡ hints_fault (live_at l.clauses) (marked l.initial.marks) l.hints;
  room : length l.marks.stamps ≡ length l.initial.marks.stamps;
}

abbrev pub decreases-loop-hint : goal.decreases-loop-hint
decreases-loop-hint l = length l.left
