-- The invariant of a solver between calls, and which formulas it solves.
use Rattle.std.specs.Prelude.{◌≡◌, ◌+◌, ◌<◌, ◌≤◌, ℕ, [], length, Contains}
use Rattle.sat_theory.specs.Formula.{Formula, IsFormula}
use Rattle.clause_db.specs.Stored.{IsStored}
use Rattle.sat_theory.specs.Limits.{most_conflicts}
use Rattle.cdcl_core.specs.declared.search.Search.{Search}
use Rattle.cdcl_core.specs.declared.solver.SolverStatus.{SolverStatus}
use Rattle.cdcl_core.specs.declared.solver.SolverStatus.TheVariants.{Empty, Undecided, Refuted, Failed}
use Rattle.cdcl_core.specs.Searching.{IsSearching, HasWatchInvariant, IsLogged}
use Rattle.cdcl_core.specs.SearchEnds.{HasRefuted}

-- A search and its status, as contracts see a solver.
pub record Solving : Type 0 where
  pub search : Search
  pub status : SolverStatus

-- Between calls a search may be at any level, and ids of later clauses fit in 32 bits.
pub record IsUnderWay (s : Search) : Type 0 where
  pub searching : IsSearching s
  pub visited : HasWatchInvariant s
  pub given : s.given ≤ length s.clauses.clauses
  pub few : length s.clauses.clauses + length s.starts.items < 2950000000
  pub least : s.least ≤ most_conflicts

abbrev pub FitsStatus : Search → SolverStatus → Type 0
FitsStatus s Empty = Unit {0}
FitsStatus s Undecided = IsUnderWay s
FitsStatus s Refuted = IsStored s.clauses
FitsStatus s Failed = Unit {0}

-- The search is one over the formula, which hasn't the empty clause.
pub record IsSearchOf (f : Formula) (least : ℕ) (s : Search) : Type 0 where
  pub formula : IsFormula f
  pub some : Contains f.clauses [] → ⊥
  pub logged : IsLogged f s
  pub least_is : s.least ≡ least

abbrev pub FitsStatusOf : Formula → ℕ → Search → SolverStatus → Type 0
FitsStatusOf f least s Empty = Contains f.clauses []
FitsStatusOf f least s Undecided = IsSearchOf f least s
FitsStatusOf f least s Refuted = HasRefuted f s
FitsStatusOf f least s Failed = ⊥
