use Rattle.std.proofs.Common.{◌≡◌, length}
use Rattle.lrat_check.specs.Live.{live_at}
use Rattle.lrat_check.specs.Seen.{seen_in}
use Rattle.lrat_check.specs.Judging.{no_ids, deletion_fault}
use Rattle.lrat_check.proofs.judging.judge_deletion.Given as goal

abbrev pub invariant-loop-id : goal.invariant-loop-id
invariant-loop-id l = deletion_fault (live_at l.clauses) (seen_in l.seen) l.left ≡ deletion_fault (live_at l.clauses) no_ids l.ids

abbrev pub decreases-loop-id : goal.decreases-loop-id
decreases-loop-id l = length l.left
