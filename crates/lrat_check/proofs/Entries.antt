-- A hash map of clauses as a finite map.
use Rattle.std.proofs.Common.{◌≡◌, ℕ, ℤ, Bool, true, false, ◌||◌, ◌==◌, cond, List, [], ◌∷◌, Option, Some, None, nat_eq, refl, sym, ap, ◌∙◌, arith}
use Rattle.std.specs.Ordering.{nat_cmp, eq_by_cmp}
use Rattle.std.specs.Cmp.{nat_cmp_total}
use Rattle.std.specs.FinMap as map
use Rattle.std.specs.Map.{lookup}
use Rattle.std.specs.HashMap.{HashMap, get}
use Rattle.std.proofs.lemmas.Bool.Decides.{nat_tests}
use Rattle.sat_theory.specs.State.{with_clause, without}
use Rattle.lrat_check.specs.Live.{live_at}
use Rattle.lrat_check.specs.OccurrenceIndex.{Lists, IsIndexed}

tie_is : (q k : ℕ) → eq_by_cmp nat_cmp q k ≡ (q == k)
tie_is q k = grind (arith, nat_tests)

find-lookup : (q : ℕ) (es : List (ℕ × List ℤ)) → map.find nat_cmp q es ≡ lookup (nat_eq q) es
find-lookup q [] = refl
find-lookup q (e ∷ es) = ap (λ (b : Bool). cond b (Some e.1) (map.find nat_cmp q es)) (tie_is q e.0) ∙ ap (λ (o : Option (List ℤ)). cond (nat_eq q e.0) (Some e.1) o) (find-lookup q es)

-- a look-up in the hash map is a look-up in the finite map
pub live_get : {S : Type 0} (m : HashMap ℕ (List ℤ) S) (k : ℕ) → live_at (map.from_entries m.entries) k ≡ get nat_eq m k
live_get m k = map.get-from_entries nat_cmp_total m.entries k ∙ find-lookup k m.entries

turned : (a b : ℕ) → (a == b) ≡ (b == a)
turned a b = grind (arith, nat_tests)

or_false : (b : Bool) → (b || false) ≡ b
or_false true = refl
or_false false = refl

-- a clause was inserted with an id
pub live-insert : {S : Type 0} (old new : HashMap ℕ (List ℤ) S) (id : ℕ) (clause : List ℤ) →
    ((q : ℕ) → get nat_eq new q ≡ cond (nat_eq id q) (Some clause) (get nat_eq old q)) →
    live_at (map.from_entries new.entries) ≡ with_clause (live_at (map.from_entries old.entries)) id clause
live-insert old new id clause each = λ i k. at k i
  where
    at : (k : ℕ) → live_at (map.from_entries new.entries) k ≡ with_clause (live_at (map.from_entries old.entries)) id clause k
    at k = live_get new k ∙ each k ∙ ap (λ (o : Option (List ℤ)). cond (id == k) (Some clause) o)
        (sym (live_get old k)) ∙ ap (λ (b : Bool). cond b (Some clause) (live_at (map.from_entries old.entries) k))
        (turned id k)

-- the clause with an id was removed
pub live-remove : {S : Type 0} (old new : HashMap ℕ (List ℤ) S) (id : ℕ) →
    ((q : ℕ) → get nat_eq new q ≡ cond (nat_eq id q) None (get nat_eq old q)) →
    live_at (map.from_entries new.entries) ≡ without (live_at (map.from_entries old.entries)) (id ∷ [])
live-remove old new id each = λ i k. at k i
  where
    at : (k : ℕ) → live_at (map.from_entries new.entries) k ≡ without (live_at (map.from_entries old.entries)) (id ∷ []) k
    at k = live_get new k ∙ each k ∙ ap (λ (o : Option (List ℤ)). cond (id == k) None o) (sym (live_get old k))
        ∙ ap (λ (b : Bool). cond b None (live_at (map.from_entries old.entries) k)) (turned id k
        ∙ sym (or_false (k == id)))

-- the index finds the same clauses for both maps
pub indexed_view : {S : Type 0} (m : HashMap ℕ (List ℤ) S) (index : Lists) → IsIndexed (get nat_eq m) index → IsIndexed (live_at (map.from_entries m.entries)) index
indexed_view m index indexed = record { each = λ id clause is. indexed.each id clause (sym (live_get m id) ∙ is) }

-- In an empty map nothing has to be found, so any index fits it.
pub empty_view : {S : Type 0} (m : HashMap ℕ (List ℤ) S) → m.entries ≡ [] → map.from_entries {R = nat_cmp} m.entries ≡ map.empty
empty_view m none = rw none refl

pub empty_indexed : {S : Type 0} (m : HashMap ℕ (List ℤ) S) (index : Lists) → m.entries ≡ [] → IsIndexed (get nat_eq m) index
empty_indexed m index none = record { each = λ id clause is. absurd (nowhere id clause is) }
  where
    nowhere : (id : ℕ) (clause : List ℤ) → get nat_eq m id ≡ Some clause → ⊥
    nowhere id clause is = let gone : None ≡ Some clause = sym (ap (lookup (nat_eq id)) none) ∙ is in absurd (cc)
