use Rattle.std.proofs.Common.{◌≡◌, ℕ, ℤ, ◌<◌, ◌≤◌, List, length, Some}
use Rattle.sat_theory.specs.Formula.{Formula}
use Rattle.clause_db.specs.Stored.{live_in, IsStored}
use Rattle.cdcl_core.specs.Reduction.{IsPending}
use Rattle.cdcl_core.proofs.search.Search.delete_to_final_bound.Given as goal

abbrev pub invariant-loop-index : goal.invariant-loop-index
invariant-loop-index l = record {
  stored : IsStored l.self.clauses;
  lines : l.self.lines ≡ l.initial.self.lines;
  given : l.self.given ≡ l.initial.self.given;
  least : l.self.least ≡ l.initial.self.least;
  long : length l.self.clauses.clauses ≡ length l.initial.self.clauses.clauses;
  pending : (f : Formula) → IsPending f l.initial.self l.initial.gone.items → IsPending f l.self l.gone.items;
  dead : (id : ℕ) (clause : List ℤ) → l.self.given < id → id ≤ l.index → live_in l.self.clauses id ≡ Some clause → ⊥;
}
