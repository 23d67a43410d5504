use Rattle.std.proofs.Common.{◌<◌, ◌≤◌, ◌-◌}
use Rattle.var_heap.specs.Entries.{entry}
use Rattle.var_heap.specs.HeapArrays.{IsHeapArray, at, IsMoved, IsOrderedAbove}
use Rattle.var_heap.proofs.array.HeapArray.up.Given as goal

abbrev pub invariant-loop-place : goal.invariant-loop-place
invariant-loop-place l = record {
  array : IsHeapArray l.self;
  moved : IsMoved l.initial.self l.self;
  inside : (0 < l.place) × (l.place ≤ l.self.len);
  ordered : IsOrderedAbove (at l.self) (entry l.scores) l.self.len l.place;
}

abbrev pub decreases-loop-place : goal.decreases-loop-place
decreases-loop-place l = l.place - 1
