-- Deleting a clause keeps the invariant.
use Rattle.std.specs.Prelude.{◌≡◌, ◌≢◌, ℕ, zero, suc, ◌+◌, ◌-◌, ◌*◌, ◌<◌, ◌≤◌, ◌⊎◌, ◌==◌, Bool, true, false}
use Rattle.std.specs.Prelude.{if◌then◌else◌, ℤ, List, [], ◌∷◌, length, slice_get, slice_index_or, slice_set, Contains}
use Rattle.std.specs.Prelude.{AllPairs, Option, Some, None, IsSome, refl}
use Rattle.std.specs.Option.{option_flatten}
use Rattle.std.proofs.Common.{sym, ap, ◌∙◌, subst, arith, inl, inr}
use Rattle.std.proofs.Math.Logic.{⊎_elim}
use Rattle.std.proofs.lemmas.Bool.{cases_eq, cases_lt, eq-eqb, ne_eqb}
use Rattle.std.proofs.lemmas.List.{length-set, get_or-set_other}
use Rattle.sat_theory.specs.Formula.{IsWithin}
use Rattle.sat_theory.specs.State.{without, is_listed}
use Rattle.cdcl_theory.specs.CodeLaws.{cases_literal}
use Rattle.clause_db.specs.declared.watches.WatchedPair.{WatchedPair}
use Rattle.clause_db.specs.Watching.{list_of, pair_at, no_pair}
use Rattle.clause_db.specs.WatchingLaws.{swap_keeps, swap_only, swap_once}
use Rattle.clause_db.specs.Stored.{Stored, live_at, live_in, Watches, IsPair, IsStored}
use Rattle.clause_db.specs.StoredLaws.{live_inside}
use Rattle.clause_db.specs.Deleting.{HasLeft, IsDeleted}

set_same : (xs : List (Option (List ℤ))) (k : ℕ) → option_flatten (slice_get (slice_set xs k None) k) ≡ None
set_same [] k = refl
set_same (x ∷ xs) zero = refl
set_same (x ∷ xs) (suc k) = set_same xs k

set_other : (xs : List (Option (List ℤ))) (i k : ℕ) → (k ≡ i → ⊥) → slice_get (slice_set xs i None) k ≡ slice_get xs k
set_other [] i k apart = refl
set_other (x ∷ xs) zero zero apart = absurd (apart refl)
set_other (x ∷ xs) zero (suc k) apart = refl
set_other (x ∷ xs) (suc i) zero apart = refl
set_other (x ∷ xs) (suc i) (suc k) apart = set_other xs i k (λ e. apart (ap (λ (n : ℕ). suc n) e))

live_suc : (xs : List (Option (List ℤ))) (k : ℕ) → live_at xs (suc k) ≡ option_flatten (slice_get xs k)
live_suc xs k =
    let some : (suc k == 0) ≡ false = ne_eqb (suc k) 0 (λ e. omega arith) in
    let index : suc k - 1 ≡ k = omega arith in
    rw (some, index) refl

both_same : (b : Bool) (o : Option (List ℤ)) → o ≡ (if b then o else o)
both_same true o = refl
both_same false o = refl

without_it : (live : ℕ → Option (List ℤ)) (id k : ℕ) → k ≡ id → without live (id ∷ []) k ≡ None
without_it live id k e = rw (eq-eqb k id e) refl

without_other : (live : ℕ → Option (List ℤ)) (id k : ℕ) → (k ≡ id → ⊥) → without live (id ∷ []) k ≡ live k
without_other live id k apart = rw (ne_eqb k id apart) refl

deleted_at : (clauses : List (Option (List ℤ))) (id k : ℕ) → 0 < id → live_at (slice_set clauses (id - 1) None) k ≡ without (live_at clauses) (id ∷ []) k
deleted_at clauses id zero some = both_same (is_listed (id ∷ []) 0) None
deleted_at clauses id (suc k) some = ⊎_elim
    (λ (e : suc k ≡ id).
    let at : id - 1 ≡ k = omega arith in
    live_suc (slice_set clauses (id - 1) None) k ∙ ap (λ (n : ℕ). option_flatten (slice_get (slice_set clauses n None) k)) at ∙ set_same clauses k ∙ sym (without_it (live_at clauses) id (suc k) e))
    (λ (apart : suc k ≡ id → ⊥).
    live_suc (slice_set clauses (id - 1) None) k
    ∙ ap option_flatten (set_other clauses (id - 1) k (λ h. apart (omega (arith, h, some))))
    ∙ sym (live_suc clauses k) ∙ sym (without_other (live_at clauses) id (suc k) apart))
    (cases_eq (suc k) id)

-- No clause has the id of a deleted clause, and nothing else changes.
pub live_deleted : (id : ℕ) (old new : Stored) → IsDeleted id old new → 0 < id → live_in new ≡ without (live_in old) (id ∷ [])
live_deleted id old new deleted some = λ i k. (ap (λ (xs : List (Option (List ℤ))). live_at xs k) deleted.clauses ∙ deleted_at old.clauses id k some) i

-- what is live was live before, under another id than the deleted one
pub was_live : (clauses : List (Option (List ℤ))) (id k : ℕ) (clause : List ℤ) → 0 < id → live_at (slice_set clauses (id - 1) None) k ≡ Some clause → (live_at clauses k ≡ Some clause) × (k ≡ id → ⊥)
was_live clauses id k clause some is =
    let e : without (live_at clauses) (id ∷ []) k ≡ Some clause = sym (deleted_at clauses id k some) ∙ is in
    ⊎_elim
    (λ (same : k ≡ id). (let none : without (live_at clauses) (id ∷ []) k ≡ None = without_it (live_at clauses) id k same in absurd (cc)))
    (λ (apart : k ≡ id → ⊥). (sym (without_other (live_at clauses) id k apart) ∙ e, apart))
    (cases_eq k id)

pub still_live : (id : ℕ) (old new : Stored) (k : ℕ) (clause : List ℤ) → IsDeleted id old new → 0 < id → live_in new k ≡ Some clause → (live_in old k ≡ Some clause) × (k ≡ id → ⊥)
still_live id old new k clause deleted some is = was_live old.clauses id k clause some (subst (λ (xs : List (Option (List ℤ))). live_at xs k ≡ Some clause) deleted.clauses is)

-- and what was live is live, except the deleted clause
pub kept_live : (id : ℕ) (old new : Stored) (k : ℕ) (clause : List ℤ) → IsDeleted id old new → 0 < id → (k ≡ id → ⊥) → live_in old k ≡ Some clause → live_in new k ≡ Some clause
kept_live id old new k clause deleted some apart is = ap (λ (g : ℕ → Option (List ℤ)). g k) (live_deleted id old new deleted some) ∙ without_other (live_in old) id k apart ∙ is

pub some_live : (o : Option (List ℤ)) → IsSome o → (clause : List ℤ) × (o ≡ Some clause)
some_live (Some clause) some = (clause, refl)
some_live None some = absurd (cc)

-- The pairs of other ids are unchanged.
pub pair_left : (id : ℕ) (old new : Stored) (k : ℕ) → IsDeleted id old new → 0 < id → 0 < k → (k ≡ id → ⊥) → pair_at new.watches k ≡ pair_at old.watches k
pair_left id old new k deleted some some_k apart =
    ap (λ (ps : List WatchedPair). slice_index_or ps (k - 1) no_pair) deleted.pairs ∙ get_or-set_other old.watches.pairs (id - 1) (k - 1) no_pair no_pair (λ e. apart (omega (arith, e, some, some_k)))

-- Other clauses watch the same literals as before.
pub still_watches : (id : ℕ) (old new : Stored) (k : ℕ) (l : ℤ) → IsDeleted id old new → 0 < id → Watches new k l → Watches old k l × (k ≡ id → ⊥)
still_watches id old new k l deleted some watches =
    let before : (live_in old k ≡ Some watches.clause) × (k ≡ id → ⊥) = still_live id old new k watches.clause deleted some watches.is_live in (
      record {
        clause = watches.clause;
        is_live = before.0;
        long = watches.long;
        watched = subst (λ (p : WatchedPair). (l ≡ p.first) ⊎ (l ≡ p.second)) (pair_left id old new k deleted some (live_inside new k watches.clause watches.is_live).0 before.1) watches.watched;
      },
      before.1,
    )

pub kept_watches : (id : ℕ) (old new : Stored) (k : ℕ) (l : ℤ) → IsDeleted id old new → 0 < id → (k ≡ id → ⊥) → Watches old k l → Watches new k l
kept_watches id old new k l deleted some apart watches = record {
  clause = watches.clause;
  is_live = kept_live id old new k watches.clause deleted some apart watches.is_live;
  long = watches.long;
  watched = subst (λ (p : WatchedPair). (l ≡ p.first) ⊎ (l ≡ p.second)) (sym (pair_left id old new k deleted some (live_inside old k watches.clause watches.is_live).0 apart)) watches.watched;
}

-- a live clause watches a literal or doesn't watch it
pub cases_watches : (s : Stored) (id : ℕ) (l : ℤ) (clause : List ℤ) → live_in s id ≡ Some clause → Watches s id l ⊎ (Watches s id l → ⊥)
cases_watches s id l clause is = ⊎_elim
    (λ (short : length clause < 2). inr (λ watches. short_watches watches short))
    (λ (long : 2 ≤ length clause). ⊎_elim
    (λ (e : l ≡ (pair_at s.watches id).first). inl (record { clause = clause; is_live = is; long = long; watched = inl e }))
    (λ (not_first : l ≡ (pair_at s.watches id).first → ⊥). ⊎_elim
    (λ (e : l ≡ (pair_at s.watches id).second). inl (record { clause = clause; is_live = is; long = long; watched = inr e }))
    (λ (not_second : l ≡ (pair_at s.watches id).second → ⊥). inr (λ watches. ⊎_elim not_first not_second watches.watched))
    (cases_literal l (pair_at s.watches id).second))
    (cases_literal l (pair_at s.watches id).first))
    (cases_lt (length clause) 2)
  where
    short_watches : Watches s id l → length clause < 2 → ⊥
    short_watches watches short =
        let live : live_in s id ≡ Some watches.clause = watches.is_live in
        let same : watches.clause ≡ clause = cc in
        let long : 2 ≤ length watches.clause = watches.long in
        let n : length watches.clause ≡ length clause = ap length same in
        omega (arith, long, short, n)

pub stored_deleted : (id : ℕ) (old new : Stored) (clause : List ℤ) → IsStored old → live_in old id ≡ Some clause → IsDeleted id old new → IsStored new
stored_deleted id old new clause stored is deleted = record {
  clauses = λ k c live. stored.clauses k c (still_live id old new k c deleted some live).0;
  variables = λ k c live. subst (λ (n : ℕ). IsWithin n c) (sym deleted.vars) (stored.variables k c (still_live id old new k c deleted some live).0);
  few = (let long : length new.clauses ≡ length old.clauses = ap length deleted.clauses
      ∙ length-set old.clauses (id - 1) None in let few : length old.clauses ≤ 4000000000 =
      stored.few in omega (arith, long, few));
  pairs_room = ap length deleted.pairs ∙ length-set old.watches.pairs (id - 1) no_pair ∙ stored.pairs_room ∙ sym (ap length deleted.clauses ∙ length-set old.clauses (id - 1) None);
  room = deleted.room ∙ stored.room ∙ ap (λ (n : ℕ). 2 * n + 2) (sym deleted.vars);
  pairs = λ k c live long.
      let before : (live_in old k ≡ Some c) × (k ≡ id → ⊥) = still_live id old new k c deleted some live in
      subst (IsPair c) (sym (pair_left id old new k deleted some (live_inside new k c live).0 before.1)) (stored.pairs k c before.0 long);
  listed = listed;
  only = only;
  once = once;
}
  where
    some : 0 < id
    some = (live_inside old id clause is).0

    listed : (l : ℤ) (k : ℕ) → Watches new k l → Contains (list_of new.watches l) k
    listed l k watches =
        let before : Watches old k l × (k ≡ id → ⊥) = still_watches id old new k l deleted some watches in
        let there : Contains (list_of old.watches l) k = stored.listed l k before.0 in
        ⊎_elim
        (λ (yes_ : Watches old id l). (let left : HasLeft id (list_of old.watches l) (list_of new.watches l) = deleted.left l yes_ in
        rw left.is (swap_keeps (list_of old.watches l) left.index 0 k left.inside (λ e. before.1 (e ∙ left.at_index)) there)))
        (λ (none : Watches old id l → ⊥). subst (λ (xs : List ℕ). Contains xs k) (sym (deleted.others l none)) there)
        (cases_watches old id l clause is)

    only : (l : ℤ) (k : ℕ) → Contains (list_of new.watches l) k → Watches new k l
    only l k there = ⊎_elim
        (λ (yes_ : Watches old id l).
        let left : HasLeft id (list_of old.watches l) (list_of new.watches l) = deleted.left l yes_ in
        let both : Contains (list_of old.watches l) k × (k ≡ slice_index_or (list_of old.watches l) left.index 0 → ⊥) =
        swap_only (list_of old.watches l) left.index 0 k left.inside (stored.once l)
        (subst (λ (xs : List ℕ). Contains xs k) left.is there) in
        kept_watches id old new k l deleted some (λ e. both.1 (e ∙ sym left.at_index)) (stored.only l k both.0))
        (λ (none : Watches old id l → ⊥).
        let before : Watches old k l = stored.only l k (subst (λ (xs : List ℕ). Contains xs k) (deleted.others l none) there) in
        kept_watches id old new k l deleted some (λ e. none (subst (λ (n : ℕ). Watches old n l) e before)) before)
        (cases_watches old id l clause is)

    once : (l : ℤ) → AllPairs (λ a b. a ≢ b) (list_of new.watches l)
    once l = ⊎_elim
        (λ (yes_ : Watches old id l). (let left : HasLeft id (list_of old.watches l) (list_of new.watches l) = deleted.left l yes_ in
        subst (λ (xs : List ℕ). AllPairs (λ a b. a ≢ b) xs) (sym left.is) (swap_once (list_of old.watches l) left.index 0 left.inside (stored.once l))))
        (λ (none : Watches old id l → ⊥). subst (λ (xs : List ℕ). AllPairs (λ a b. a ≢ b) xs) (sym (deleted.others l none)) (stored.once l))
        (cases_watches old id l clause is)
