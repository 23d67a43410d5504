-- The clauses and the levels before the first step.
use Rattle.std.proofs.Common.{◌≡◌, ℕ, ◌<◌, ℤ, List, [], length, Option, Some, ap, ◌∙◌, arith}
use Rattle.std.proofs.lemmas.List.{length-map}
use Rattle.sat_theory.specs.Formula.{Formula}
use Rattle.cdcl_theory.specs.Trails.{TrailState, IsTrail, IsLayered}
use Rattle.clause_db.specs.Sorted.{sorted}
use Rattle.clause_db.specs.Stored.{none_stored, all_added}
use Rattle.clause_db.specs.StoredLaws.{all_added-clauses}

-- each clause of the formula has an id
pub count_begun : (f : Formula) → length (all_added (none_stored f.vars) f.clauses).clauses ≡ length f.clauses
count_begun f = ap length (all_added-clauses (none_stored f.vars) f.clauses) ∙ length-map f.clauses (λ (c : List ℤ). Some (sorted c))

-- no level on an empty trail
pub layered_begun : (live : ℕ → Option (List ℤ)) (t : TrailState) (starts : List ℕ) → IsTrail t → t.lits ≡ [] → starts ≡ [] → IsLayered live t starts
layered_begun live t starts trail empty none = rw none (record {
  whole = trail;
  inside = λ k d (low : k < 0). absurd (omega (arith, low));
  rising = λ i j d less (low : j < 0). absurd (omega (arith, low));
  closed = λ k d (low : k < 0). absurd (omega (arith, low));
  reasons = λ p within. absurd (let long : length t.lits ≡ 0 = ap length empty in omega (arith, within, long));
  decisions = λ p d start. absurd (let low : start.0 < 0 = start.1 in omega (arith, low));
})
