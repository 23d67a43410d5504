-- The gates of the steps so far are there, and those of the others follow.
use Rattle.std.proofs.Common.{◌≡◌, ◌+◌, length, vec_len}
use Rattle.net_core.specs.Marks.{kept}
use Rattle.net_basis.specs.Placing.{placed}
use Rattle.net_basis.proofs.placing.push_joins.Given as goal

abbrev pub invariant-loop-join : goal.invariant-loop-join
invariant-loop-join l = record {
  placed : placed l.sources (kept l.at l.gates.items) l.left ≡ placed l.sources (kept l.initial.at l.initial.gates.items) l.joins;
  count : vec_len l.gates + length l.left ≡ vec_len l.initial.gates + length l.joins;
  table : length l.at ≡ length l.initial.at;
}

abbrev pub decreases-loop-join : goal.decreases-loop-join
decreases-loop-join l = length l.left
