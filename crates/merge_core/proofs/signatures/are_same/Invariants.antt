-- The words before `j` are the same.
use Rattle.std.proofs.Common.{◌≡◌, ℕ, ◌+◌, ◌<◌, slice_index_or}
use Rattle.merge_core.proofs.signatures.are_same.Given as goal

abbrev pub invariant-loop-j : goal.invariant-loop-j
invariant-loop-j l = (i : ℕ) → i < l.j → slice_index_or l.lanes (l.first + i) 0 ≡ slice_index_or l.lanes (l.second + i) 0
