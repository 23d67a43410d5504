use Rattle.std.proofs.Common.{length}
use Rattle.sat_theory.specs.Formula.{Formula}
use Rattle.cdcl_core.specs.Searching.{IsSearching, HasWatchInvariant, IsLogged, HasResolvedConflicts}
use Rattle.cdcl_core.proofs.search.Search.resolve_conflicts.Given as goal

abbrev pub invariant-loop-conflict : goal.invariant-loop-conflict
invariant-loop-conflict l = record {
  searching : IsSearching l.self;
  visited : HasWatchInvariant l.self;
  logged : (f : Formula) → IsLogged f l.initial.self → IsLogged f l.self;
  settled : HasResolvedConflicts l.initial.self l.self;
}

abbrev pub decreases-loop-conflict : goal.decreases-loop-conflict
decreases-loop-conflict l = length l.self.starts.items
