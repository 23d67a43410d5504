use Rattle.std.proofs.Common.{◌≡◌, ℕ, ◌<◌, ◌≤◌, ◌/◌, ◌^◌, length, slice_index_or}
use Rattle.var_heap.proofs.var_heap.divide_all.Given as goal

abbrev pub invariant-loop-index : goal.invariant-loop-index
invariant-loop-index l = record {
  long : length l.scores.items ≡ length l.initial.scores.items;
  done : (k : ℕ) → k < l.index → slice_index_or l.scores.items k 0 ≡ slice_index_or l.initial.scores.items k 0 / 2 ^ l.power;
  rest : (k : ℕ) → l.index ≤ k → slice_index_or l.scores.items k 0 ≡ slice_index_or l.initial.scores.items k 0;
}
