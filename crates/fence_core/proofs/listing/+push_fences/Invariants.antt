use Rattle.std.proofs.Common.{◌≡◌, ◌++◌, ◌-◌}
use Rattle.std.specs.List.{range_with_len, flat_map}
use Rattle.fence_core.specs.ByFirst.{fences_with}
use Rattle.fence_core.proofs.listing.+push_fences.Given as goal

abbrev pub decreases-push_fences : goal.decreases-push_fences
decreases-push_fences l = l.left

abbrev pub invariant-loop-first : goal.invariant-loop-first
invariant-loop-first l = record {
  fences : l.fences.items ≡ l.initial.fences.items ++ flat_map (fences_with l.initial.below.items l.left l.outputs) (range_with_len 1 (l.first - 1));
  below : l.below.items ≡ l.initial.below.items;
}
