use Rattle.std.proofs.Common.{◌≡◌, ◌+◌, ◌*◌, ◌-◌, ◌≤◌, length, max}
use Rattle.sat_theory.specs.Formula.{Formula}
use Rattle.cdcl_core.specs.Searching.{IsLogged}
use Rattle.cdcl_core.specs.Solving.{IsUnderWay}
use Rattle.cdcl_core.proofs.search.Search.solve_assuming_to.Given as goal

abbrev pub invariant-loop-conflict : goal.invariant-loop-conflict
invariant-loop-conflict l = record {
  way : IsUnderWay l.self;
  logged : (f : Formula) → IsLogged f l.initial.self → IsLogged f l.self;
  least : l.self.least ≡ l.initial.self.least;
  vars : l.self.trail.vars ≡ l.initial.self.trail.vars;
  few : length l.self.clauses.clauses + length l.self.starts.items ≤
      max (length l.initial.self.clauses.clauses + length l.initial.self.starts.items) (l.end + l.initial.self.trail.vars + 1);
  given : l.self.given ≡ l.initial.self.given;
}

abbrev pub decreases-loop-conflict : goal.decreases-loop-conflict
decreases-loop-conflict l = (l.end - length l.self.clauses.clauses) * (l.initial.self.trail.vars + 2) + (l.initial.self.trail.vars + 2 - length l.self.trail.lits)
