use Rattle.std.proofs.Common.{◌≡◌, ◌+◌, ◌*◌, ◌-◌, ◌≤◌, length}
use Rattle.sat_theory.specs.Formula.{Formula}
use Rattle.cdcl_core.specs.Searching.{IsSearching, HasWatchInvariant, IsLogged}
use Rattle.cdcl_core.proofs.search.Search.run.Given as goal

abbrev pub invariant-loop-conflict : goal.invariant-loop-conflict
invariant-loop-conflict l = record {
  searching : IsSearching l.self;
  visited : HasWatchInvariant l.self;
  logged : (f : Formula) → IsLogged f l.initial.self → IsLogged f l.self;
  given : l.self.given ≡ l.initial.self.given;
  least : l.self.least ≡ l.initial.self.least;
  shorter : l.self.shorter ≡ l.initial.self.shorter;
  few : length l.self.clauses.clauses + length l.self.starts.items ≤ l.initial.self.given + l.budget + l.self.trail.vars + 1;
  vars : l.self.trail.vars ≡ l.initial.self.trail.vars;
}

abbrev pub decreases-loop-conflict : goal.decreases-loop-conflict
decreases-loop-conflict l = (l.initial.self.given + l.budget - length l.self.clauses.clauses) * (l.initial.self.trail.vars + 2) + (l.initial.self.trail.vars + 2 - length l.self.trail.lits)
