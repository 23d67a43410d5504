-- Final deletions keep what a search has shown.
use Rattle.std.proofs.Common.{◌≡◌, ℕ, ◌≤◌, List, [], Contains, subst, sym, arith}
use Rattle.sat_theory.specs.Formula.{Formula}
use Rattle.sat_theory.specs.Line.{Line}
use Rattle.sat_theory.specs.Log.{additions, HasEmpty, Refutes, ReachesBudget, KeepsHalf}
use Rattle.cdcl_core.specs.declared.search.Search.{Search}
use Rattle.cdcl_core.specs.Searching.{IsAccounted, AreUnsubsumed}
use Rattle.cdcl_core.specs.SearchEnds.{HasRefuted, HasReachedBudget}
use Rattle.cdcl_core.specs.Reduction.{with_deletion, MoreDeleted}
use Rattle.cdcl_core.proofs.Gone.{additions_gone, new_gone, reaches_gone, log_kept}
use Rattle.cdcl_core.proofs.Showing.{log_spent}

pub refuted_thin : (f : Formula) (s t : Search) → HasRefuted f s → MoreDeleted s.lines t.lines → IsAccounted f t → Refutes f t.lines
refuted_thin f s t refuted gone accounted = record {
  holds = accounted.log.holds;
  reaches = subst (λ (ls : List Line). HasEmpty f ls) (sym gone.is) (reaches_gone f s.lines gone.own gone.ids refuted.reaches);
}

pub spent_thin : (f : Formula) (budget : ℕ) (s t : Search) → HasReachedBudget f budget s → MoreDeleted s.lines t.lines → IsAccounted f t → (Contains f.clauses [] → ⊥) → ReachesBudget f t.lines budget
spent_thin f budget s t spent gone accounted none =
    log_spent f t.clauses t.lines t.deleted t.least budget accounted.log
    (subst (λ (ls : List Line). AreUnsubsumed f ls) (sym gone.is) (new_gone f s.lines gone.own gone.ids spent.logged.new))
    none
    (subst (λ (ls : List Line). budget ≤ additions ls) (sym gone.is)
    (let same : additions (with_deletion s.lines gone.own gone.ids) ≡ additions s.lines =
    additions_gone s.lines gone.own gone.ids in let enough : budget ≤ additions s.lines =
    spent.enough in omega arith))

pub kept_thin : (f : Formula) (budget : ℕ) (s t : Search) → HasReachedBudget f budget s → MoreDeleted s.lines t.lines → t.least ≡ s.least → IsAccounted f t → KeepsHalf f t.lines
kept_thin f budget s t spent gone same accounted =
    log_kept f t.clauses t.lines t.deleted t.least accounted.log
    (subst (λ (ls : List Line). t.least ≤ additions ls) (sym gone.is)
    (let as_many : additions (with_deletion s.lines gone.own gone.ids) ≡ additions s.lines =
    additions_gone s.lines gone.own gone.ids in let low : s.least ≤ additions s.lines =
    spent.least in omega (arith, as_many, low, same)))

-- They delete no addition from the count.
pub many_thin : (s t : Search) → MoreDeleted s.lines t.lines → additions t.lines ≡ additions s.lines
many_thin s t gone = subst (λ (ls : List Line). additions ls ≡ additions s.lines) (sym gone.is) (additions_gone s.lines gone.own gone.ids)
