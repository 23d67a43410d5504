-- Where no clause is empty: at the start, and with clauses that are added.
use Rattle.std.specs.Prelude.{◌≡◌, ℕ, ◌+◌, ℤ, List, [], ◌∷◌, map, length, Contains, Option, Some, refl}
use Rattle.std.proofs.Common.{sym, ap, ◌∙◌, subst, arith}
use Rattle.std.proofs.Math.Logic.{⊎_elim}
use Rattle.sat_theory.specs.State.{by_id}
use Rattle.sat_theory.specs.Soundness.{by_id-Contains}
use Rattle.clause_db.specs.Sorted.{sorted}
use Rattle.clause_db.specs.SortedLaws.{length-sorted, by_id-from_sorted}
use Rattle.clause_db.specs.Stored.{Stored, live_in, added}
use Rattle.clause_db.specs.StoredLaws.{live_added}

sorted_empty : (lits : List ℤ) → sorted lits ≡ [] → lits ≡ []
sorted_empty [] is = refl
sorted_empty (l ∷ ls) is = absurd (let long : length (sorted (l ∷ ls)) ≡ length (l ∷ ls) = length-sorted (l ∷ ls) in
    let none : length (sorted (l ∷ ls)) ≡ 0 = ap length is in omega (arith, long, none))

-- Where no clause of a formula is empty, none is live at the start.
pub none_empty : (clauses : List (List ℤ)) (live : ℕ → Option (List ℤ)) → live ≡ by_id (map sorted clauses) → (Contains clauses [] → ⊥) → (id : ℕ) → live id ≡ Some [] → ⊥
none_empty clauses live start none id is =
    let found : (given : List ℤ) × (by_id clauses id ≡ Some given) × ([] ≡ sorted given) = by_id-from_sorted clauses id [] (ap (λ (f : ℕ → Option (List ℤ)). f id) (sym start) ∙ is) in
    none (subst (λ (c : List ℤ). Contains clauses c) (sorted_empty found.0 (sym found.2)) (by_id-Contains clauses id found.0 found.1))

-- A clause that is added and isn't empty leaves none that is.
pub none_empty_added : (s : Stored) (lits : List ℤ) → (lits ≡ [] → ⊥) → ((id : ℕ) → live_in s id ≡ Some [] → ⊥) → (id : ℕ) → live_in (added s lits) id ≡ Some [] → ⊥
none_empty_added s lits some none id is =
    ⊎_elim
    (λ (new : (id ≡ length s.clauses + 1) × (sorted lits ≡ [])). some (sorted_empty lits new.1))
    (λ (old : live_in s id ≡ Some []). none id old)
    (live_added s lits id [] is)
