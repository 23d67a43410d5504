use Rattle.std.proofs.Common.{◌≡◌, ℕ, ◌<◌, ◌≤◌, ◌+◌, length}
use Rattle.var_heap.specs.HeapArrays.{IsHeapArray, place}
use Rattle.var_heap.proofs.array.HeapArray.new.Given as goal

abbrev pub invariant-loop-before : goal.invariant-loop-before
invariant-loop-before l = record {
  array : IsHeapArray l.array;
  room : length l.array.places.items ≡ l.vars + 1;
  len : l.array.len ≡ l.before;
  held : (v : ℕ) → v ≤ l.before → place l.array v ≡ v;
  free : (v : ℕ) → l.before < v → place l.array v ≡ 0;
}
