-- No live clause is inside a list.
use Rattle.std.proofs.Common.{◌≡◌, ℕ, ◌+◌, ◌<◌, ◌≤◌, ℤ, Bool, true, false, List, [], ◌∷◌, length, slice_index_or, take, Contains, All, Some, refl, ◌∙◌, subst, arith, inl}
use Rattle.std.proofs.lemmas.List.Elements.{All-contains, All-contains_itself, All-push}
use Rattle.std.proofs.lemmas.Grind.{common_steps}
use Rattle.std.proofs.lemmas.List.{take_more}
use Rattle.sat_theory.specs.Log.{IsUnsubsumed}
use Rattle.cdcl_theory.specs.Codes.{marked_in}
use Rattle.clause_db.specs.Watching.{list_of}
use Rattle.clause_db.specs.Stored.{Stored, live_in, Watches, IsPair, IsStored}
use Rattle.clause_db.specs.Watching.{pair_at}
use Rattle.subsume_core.specs.Units.{IsUnitsOf}
use Rattle.subsume_core.specs.Inside.{NotInside, NoneWatching, IsApart}

-- the same literals in another order
pub not_inside_of : (s : Stored) (lits block : List ℤ) (id : ℕ) →
    ((clause : List ℤ) → live_in s id ≡ Some clause → (l : ℤ) → Contains block l → Contains clause l) →
    (All (Contains lits) block → ⊥) → NotInside s lits id
not_inside_of s lits block id same out = record {
  not_inside = λ clause is inside. out (λ k d low.
      All-contains (Contains lits) clause (slice_index_or block k d) inside
      (same clause is (slice_index_or block k d) (All-contains_itself block k d low)));
}

-- the clauses of a watch list, one after another
pub none_at : (s : Stored) (lits : List ℤ) (l : ℤ) → ((id : ℕ) → Watches s id l → Contains (list_of s.watches l) id) →
    ((k : ℕ) → k < length (list_of s.watches l) → NotInside s lits (slice_index_or (list_of s.watches l) k 0)) →
    NoneWatching s lits l
none_at s lits l listed none = record {
  none = λ id watches. (let there : Contains (list_of s.watches l) id = listed id watches in
      subst (λ (n : ℕ). NotInside s lits n) (same_entry (list_of s.watches l) there.0 0 id there.1
      ∙ there.2) (none there.0 there.1));
}
  where
    same_entry : (xs : List ℕ) (k d e : ℕ) → k < length xs → slice_index_or xs k d ≡ slice_index_or xs k e
    same_entry xs k d e low = grind (arith, common_steps)

-- A live clause inside the list would be flagged, or watch one of its literals.
pub new_by_literals : (s : Stored) (flags : List Bool) (lits : List ℤ) → IsStored s → IsUnitsOf s flags →
    ((id : ℕ) → live_in s id ≡ Some [] → ⊥) → All (IsApart s flags lits) lits → IsUnsubsumed (live_in s) lits
new_by_literals s flags lits stored units some apart id [] is inside = some id is
new_by_literals s flags lits stored units some apart id (l ∷ []) is inside =
    let there : Contains lits l = inside 0 l (omega arith) in
    let off : marked_in flags l ≡ false = (All-contains (IsApart s flags lits) lits l apart there).no_unit in
    let on : marked_in flags l ≡ true = units.flagged id l is in
    absurd (cc)
new_by_literals s flags lits stored units some apart id (l ∷ m ∷ rest) is inside =
    let long : 2 ≤ length (l ∷ m ∷ rest) = omega arith in
    let pair : IsPair (l ∷ m ∷ rest) (pair_at s.watches id) = stored.pairs id (l ∷ m ∷ rest) is long in
    let first : ℤ = (pair_at s.watches id).first in
    let there : Contains lits first = All-contains (Contains lits) (l ∷ m ∷ rest) first inside pair.first in
    ((All-contains (IsApart s flags lits) lits first apart there).none_watching.none id
    (record { clause = l ∷ m ∷ rest; is_live = is; long = long; watched = inl refl })).not_inside
    (l ∷ m ∷ rest) is inside

-- one more literal of the list is no unit clause and watched by no clause inside it
pub apart_more : (s : Stored) (flags : List Bool) (lits list : List ℤ) (i : ℕ) (l : ℤ) → i < length list →
    slice_index_or list i l ≡ l → IsApart s flags lits l → All (IsApart s flags lits) (take i list) →
    All (IsApart s flags lits) (take (i + 1) list)
apart_more s flags lits list i l low at here before = rw (take_more list i l low, at) (All-push (IsApart s flags lits) (take i list) l before here)
