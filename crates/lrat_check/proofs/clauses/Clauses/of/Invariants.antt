use Rattle.std.proofs.Common.{◌≡◌, ◌≤◌, length, take, vec_len}
use Rattle.lrat_check.specs.Live.{live_at}
use Rattle.lrat_check.proofs.Loaded.{live_after}
use Rattle.lrat_check.proofs.clauses.Clauses.of.Given as goal

abbrev pub invariant-loop-clause : goal.invariant-loop-clause
invariant-loop-clause l = record {
  shorter : length l.left.items ≤ length l.initial.left.items;
  prefix : l.left.items ≡ take (length l.left.items) l.initial.left.items;
  after : live_at l.clauses ≡ live_after (length l.left.items) l.initial.left.items;
}

abbrev pub decreases-loop-clause : goal.decreases-loop-clause
decreases-loop-clause l = vec_len l.left
