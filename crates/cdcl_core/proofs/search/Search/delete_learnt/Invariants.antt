use Rattle.std.proofs.Common.{◌≡◌}
use Rattle.sat_theory.specs.Formula.{Formula}
use Rattle.cdcl_core.specs.Searching.{IsSearching, HasWatchInvariant, IsLogged, AreCovered}
use Rattle.cdcl_core.specs.Reduction.{IsPending, HasReduced}
use Rattle.cdcl_core.proofs.search.Search.delete_learnt.Given as goal

abbrev pub invariant-loop-id : goal.invariant-loop-id
invariant-loop-id l = record {
  searching : IsSearching l.self;
  visited : HasWatchInvariant l.self;
  reduced : HasReduced l.initial.self l.self;
  lines : l.self.lines ≡ l.initial.self.lines;
  pending : (f : Formula) → IsLogged f l.initial.self → IsPending f l.self l.gone.items;
  covered : (f : Formula) → AreCovered f l.initial.self → AreCovered f l.self;
}
