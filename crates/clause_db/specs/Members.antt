-- The literals of a live clause in their stored order, as `arranged` gives them.
use Rattle.std.specs.Prelude.{◌≡◌, ℕ, ◌⊎◌, ◌↔◌, ℤ, Bool, true, List, slice_index_or, Contains, All, Option, Some, IsSome}
use Rattle.std.proofs.lemmas.List.Elements.{All-contains, All-contains_itself}
use Rattle.sat_theory.specs.Holding.{IsUnitOutside}
use Rattle.clause_db.specs.DeletingLaws.{some_live}

-- exactly the literals of the live clause with this id, in some order
pub record AreMembersOf (live : ℕ → Option (List ℤ)) (id : ℕ) (lits : List ℤ) : Type 0 where
  pub clause : List ℤ
  pub is_live : live id ≡ Some clause
  pub same : (l : ℤ) → Contains lits l ↔ Contains clause l

pub members_read : (live : ℕ → Option (List ℤ)) (id : ℕ) (lits : List ℤ) → IsSome (live id) →
    ((clause : List ℤ) → live id ≡ Some clause → (l : ℤ) → Contains lits l ↔ Contains clause l) →
    AreMembersOf live id lits
members_read live id lits some same =
    let found : (clause : List ℤ) × (live id ≡ Some clause) = some_live (live id) some in
    record { clause = found.0; is_live = found.1; same = same found.0 found.1 }

-- A property of all literals of the list holds of all literals of the clause, and vice versa.
pub all_of_members : (P : ℤ → Type 0) (lits clause : List ℤ) → ((l : ℤ) → Contains lits l ↔ Contains clause l) → All P lits → All P clause
all_of_members P lits clause same all = λ k d low. All-contains P lits (slice_index_or clause k d) all ((same (slice_index_or clause k d)).1 (All-contains_itself clause k d low))

pub all_in_members : (P : ℤ → Type 0) (lits clause : List ℤ) → ((l : ℤ) → Contains lits l ↔ Contains clause l) → All P clause → All P lits
all_in_members P lits clause same all = λ k d low. All-contains P clause (slice_index_or lits k d) all ((same (slice_index_or lits k d)).0 (All-contains_itself lits k d low))

pub unit_of_members : (set : ℤ → Bool) (lits clause : List ℤ) (l : ℤ) → ((m : ℤ) → Contains lits m ↔ Contains clause m) → IsUnitOutside set lits l → IsUnitOutside set clause l
unit_of_members set lits clause l same unit = record {
  there = (same l).0 unit.there;
  outside = unit.outside;
  others = all_of_members (λ m. (m ≡ l) ⊎ (set m ≡ true)) lits clause same unit.others;
}
