use Rattle.std.proofs.Common.{◌≡◌}
use Rattle.sat_theory.specs.Formula.{Formula}
use Rattle.cdcl_core.specs.Searching.{IsSearching, HasWatchInvariant, IsLogged, AreCovered}
use Rattle.cdcl_core.specs.Reduction.{IsPending, HasReduced}
use Rattle.cdcl_core.proofs.DeletingToBound.{StayUpTo}
use Rattle.cdcl_core.proofs.search.Search.delete_to_bound.Given as goal

abbrev pub invariant-loop-index : goal.invariant-loop-index
invariant-loop-index l = record {
  searching : IsSearching l.self;
  visited : HasWatchInvariant l.self;
  reduced : HasReduced l.initial.self l.self;
  lines : l.self.lines ≡ l.initial.self.lines;
  pending : (f : Formula) → IsLogged f l.initial.self → IsPending f l.self l.gone.items;
  covered : (f : Formula) → AreCovered f l.initial.self → AreCovered f l.self;
  stay : StayUpTo l.index l.self;
}
