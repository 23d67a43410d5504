-- Unit clauses, before the first decision.
use Rattle.std.proofs.Common.{◌≡◌, ℕ, suc, zero, ◌+◌, ◌<◌, ◌≤◌, ◌⊎◌, ◌↔◌, ℤ, List, [], ◌∷◌, ◌++◌, length, Contains, All, Option, Some, subst, arith, inl, refl}
use Rattle.std.proofs.Math.Logic.{⊎_elim}
use Rattle.std.proofs.lemmas.Bool.{cases_eq, cases_lt}
use Rattle.std.proofs.lemmas.List.{length_push, get_or_push}
use Rattle.sat_theory.specs.Formula.{opposite}
use Rattle.cdcl_theory.specs.Propagation.{IsSettled}
use Rattle.cdcl_theory.specs.Trails.{TrailState, falsified_at, IsTrail, IsGrown, pushed}
use Rattle.cdcl_theory.specs.TrailLaws.{place_at}
use Rattle.clause_db.specs.Stored.{Stored, live_in}
use Rattle.clause_db.specs.StoredLaws.{live_inside}
use Rattle.clause_db.specs.Members.{all_in_members}
use Rattle.cdcl_core.specs.WatchInvariant.{HasTrue, KeepsWatchInvariant}

-- the clauses of fewer than two literals among the first n ids have true literals
pub record AreUnitsTrue (live : ℕ → Option (List ℤ)) (positions : ℤ → ℕ) (n : ℕ) : Type 0 where
  pub each : (id : ℕ) (clause : List ℤ) → id ≤ n → live id ≡ Some clause → length clause < 2 → HasTrue positions clause

-- true literals stay true
pub true_grown : (live : ℕ → Option (List ℤ)) (s t : TrailState) (clause : List ℤ) → IsTrail s → IsGrown live s t → HasTrue (falsified_at s) clause → HasTrue (falsified_at t) clause
true_grown live s t clause trail grown on = record {
  lit = on.lit;
  there = on.there;
  on = (grown.same.there (length s.lits) (opposite on.lit) (omega arith) (on.on, trail.positions.within (opposite on.lit))).0;
}

pub units_grown : (live : ℕ → Option (List ℤ)) (s t : TrailState) (n : ℕ) → IsTrail s → IsGrown live s t → AreUnitsTrue live (falsified_at s) n → AreUnitsTrue live (falsified_at t) n
units_grown live s t n trail grown units = record { each = λ id clause low is short. true_grown live s t clause trail grown (units.each id clause low is short) }

-- one id more
pub units_more : (live : ℕ → Option (List ℤ)) (positions : ℤ → ℕ) (n : ℕ) → AreUnitsTrue live positions n →
    ((clause : List ℤ) → live (n + 1) ≡ Some clause → length clause < 2 → HasTrue positions clause) →
    AreUnitsTrue live positions (n + 1)
units_more live positions n units new = record {
  each = λ id clause low is short. ⊎_elim
      (λ (e : id ≡ n + 1). new clause (subst (λ (k : ℕ). live k ≡ Some clause) e is) short)
      (λ (apart : id ≡ n + 1 → ⊥). units.each id clause (omega (arith, low, apart)) is short)
      (cases_eq id (n + 1));
}

-- its clause is settled,
settled_true : (positions : ℤ → ℕ) (clause : List ℤ) → IsSettled positions clause → length clause < 2 → HasTrue positions clause
settled_true positions [] settled short = absurd (settled.not_false (λ k d (low : k < 0). absurd (omega (arith, low))))
settled_true positions (l ∷ []) settled short =
    ⊎_elim
    (λ (on : 0 < positions (opposite l)). record { lit = l; there = (0, omega arith, refl); on = on })
    (λ (off : positions (opposite l) ≤ 0). ⊎_elim
    (λ (down : 0 < positions l). absurd (settled.not_false (one (λ m. 0 < positions m) l down)))
    (λ (up : positions l ≤ 0). absurd (settled.not_unit l (omega (arith, up)) (omega (arith, off)) (one (λ m. (m ≡ l) ⊎ (0 < positions m)) l (inl refl))))
    (cases_lt 0 (positions l)))
    (cases_lt 0 (positions (opposite l)))
  where
    one : (P : ℤ → Type 0) (m : ℤ) → P m → All P (m ∷ [])
    one P m here zero d low = here
    one P m here (suc k) d low = absurd (let h : suc k < 1 = low in omega (arith, h))
settled_true positions (l ∷ m ∷ ls) settled short = absurd (let h : suc (suc (length ls)) < 2 = short in omega (arith, h))

settled_of_row : (positions : ℤ → ℕ) (row clause : List ℤ) → ((l : ℤ) → Contains row l ↔ Contains clause l) → IsSettled positions row → IsSettled positions clause
settled_of_row positions row clause same settled = record {
  not_false = λ all. settled.not_false (all_in_members (λ l. 0 < positions l) row clause same all);
  not_unit = λ u up free all. settled.not_unit u up free (all_in_members (λ l. (l ≡ u) ⊎ (0 < positions l)) row clause same all);
}

pub units_settled : (live : ℕ → Option (List ℤ)) (positions : ℤ → ℕ) (n : ℕ) (row : List ℤ) →
    ((clause : List ℤ) → live (n + 1) ≡ Some clause → (l : ℤ) → Contains row l ↔ Contains clause l) →
    IsSettled positions row → AreUnitsTrue live positions n → AreUnitsTrue live positions (n + 1)
units_settled live positions n row same settled units =
    units_more live positions n units (λ clause is short.
    settled_true positions clause (settled_of_row positions row clause (same clause is) settled) short)

-- or has a literal that is made true
pub units_pushed : (live : ℕ → Option (List ℤ)) (t : TrailState) (n id : ℕ) (row : List ℤ) (l : ℤ) →
    ((clause : List ℤ) → live (n + 1) ≡ Some clause → (m : ℤ) → Contains row m ↔ Contains clause m) →
    IsTrail (pushed t l id) → IsTrail t → Contains row l → IsGrown live t (pushed t l id) →
    AreUnitsTrue live (falsified_at t) n → AreUnitsTrue live (falsified_at (pushed t l id)) (n + 1)
units_pushed live t n id row l same after trail there grown units = units_more live (falsified_at (pushed t l id)) n (units_grown live t (pushed t l id) n trail grown units) (λ clause is short.
    let place : falsified_at (pushed t l id) (opposite l) ≡ length t.lits + 1 =
    place_at (t.lits ++ l ∷ []) (falsified_at (pushed t l id)) (length t.lits) l l after.positions
    (rw length_push (omega arith)) (get_or_push t.lits l l (length t.lits) refl) in
    record { lit = l; there = (same clause is l).0 there; on = omega (arith, place) })

-- With all ids done the watch invariant holds, as nothing is propagated and no level begun.
pub units_guarded : (s : Stored) (positions : ℤ → ℕ) (n : ℕ) → length s.clauses ≤ n → AreUnitsTrue (live_in s) positions n → KeepsWatchInvariant s positions [] 0
units_guarded s positions n all units = record {
  long = λ id w clause watches is falsified. absurd (let some : 0 < positions w = falsified.0 in let low : positions w ≤ 0 = falsified.1 in omega (arith, some, low));
  short = λ id clause is short.
      let inside : (0 < id) × (id ≤ length s.clauses) = live_inside s id clause is in
      let under : id ≤ length s.clauses = inside.1 in
      let on : HasTrue positions clause = units.each id clause (omega (arith, under, all)) is short in
      record { lit = on.lit; there = on.there; on = on.on; bottom = λ k d (low : k < 0). absurd (omega (arith, low)) };
}
