-- The ends of a search, and what each shows of the formula.
use Rattle.std.specs.Prelude.{◌≡◌, ℕ, ◌+◌, ◌≤◌}
use Rattle.sat_theory.specs.Formula.{Formula}
use Rattle.sat_theory.specs.Log.{HasEmpty, additions}
use Rattle.cdcl_theory.specs.Propagation.{AllSettled}
use Rattle.cdcl_theory.specs.Trails.{falsified_at}
use Rattle.clause_db.specs.Stored.{live_in}
use Rattle.trail_core.specs.Values.{HaveValues}
use Rattle.cdcl_core.specs.declared.search.Search.{Search}
use Rattle.cdcl_core.specs.declared.search.SearchEnd.{SearchEnd}
use Rattle.cdcl_core.specs.declared.search.SearchEnd.TheVariants.{Satisfied, Refuted, BudgetReached}
use Rattle.cdcl_core.specs.Searching.{IsAccounted, IsLogged}

-- all variables have values, and all clauses of the formula are settled
pub record IsSatisfied (f : Formula) (s : Search) : Type 0 where
  pub vars : s.trail.vars ≡ f.vars
  pub logged : IsLogged f s
  pub values : HaveValues s.trail (1 + s.trail.vars)
  pub settled : AllSettled (live_in s.clauses) (falsified_at s.trail)

-- the log holds, and reaches the empty clause
pub record HasRefuted (f : Formula) (s : Search) : Type 0 where
  pub accounted : IsAccounted f s
  pub reaches : HasEmpty f s.lines

-- the log holds, and has at least `budget` and at least `least` additions
pub record HasReachedBudget (f : Formula) (budget : ℕ) (s : Search) : Type 0 where
  pub logged : IsLogged f s
  pub enough : budget ≤ additions s.lines
  pub least : s.least ≤ additions s.lines

abbrev pub Ends : Formula → ℕ → Search → SearchEnd → Type 0
Ends f budget s Satisfied = IsSatisfied f s
Ends f budget s Refuted = HasRefuted f s
Ends f budget s BudgetReached = HasReachedBudget f budget s
