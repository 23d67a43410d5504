use Rattle.std.proofs.Common.{◌<◌, ◌≤◌, ◌-◌}
use Rattle.var_heap.specs.Entries.{entry}
use Rattle.var_heap.specs.HeapArrays.{IsHeapArray, at, IsMoved, IsOrderedBelow}
use Rattle.var_heap.proofs.array.HeapArray.down.Given as goal

abbrev pub invariant-loop-below : goal.invariant-loop-below
invariant-loop-below l = record {
  array : IsHeapArray l.self;
  moved : IsMoved l.initial.self l.self;
  inside : (0 < l.place) × (l.place ≤ l.self.len);
  ordered : IsOrderedBelow (at l.self) (entry l.scores) l.self.len l.place;
}

abbrev pub decreases-loop-below : goal.decreases-loop-below
decreases-loop-below l = l.self.len - l.place
