use Rattle.std.proofs.Common.{◌≡◌, ◌≤◌, ◌<◌, ℤ, slice_index_or}
use Rattle.std.specs.List.Sorted.{IsPermutation}
use Rattle.conflict_core.proofs.analysis.put_older_half_first.Given as goal

abbrev pub invariant-loop-index : goal.invariant-loop-index
invariant-loop-index l = record {
  order : IsPermutation l.initial.lits.items l.lits.items;
  head : (d : ℤ) → slice_index_or l.lits.items 0 d ≡ slice_index_or l.initial.lits.items 0 d;
  some : 0 < l.older;
  older : l.older ≤ l.index;
}
