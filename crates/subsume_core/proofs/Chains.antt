-- Hints, one after another.
use Rattle.std.proofs.Common.{◌≡◌, ℕ, ◌<◌, ◌⊎◌, ℤ, Bool, true, false, List, [], ◌∷◌, length, Contains, All, Option, Some, None, slice_index_or, subst, arith}
use Rattle.sat_theory.specs.Formula.{opposite}
use Rattle.sat_theory.specs.Holding.{with_literal, IsUnitOutside, HintsHold}

-- The last hint's clause is inside the set.
pub hint_ends : (live : ℕ → Option (List ℤ)) (set : ℤ → Bool) (hint : ℕ) (more : List ℕ) (clause : List ℤ) →
    length more ≡ 0 → live hint ≡ Some clause → All (λ m. set m ≡ true) clause → HintsHold live set (hint ∷ more)
unfolding HintsHold
hint_ends live set hint [] clause none is inside = (clause, is, inside)
hint_ends live set hint (h ∷ hs) clause none is inside = absurd (omega arith)

-- A hint before the last, whose clause has one literal outside, goes before the others.
pub hint_goes : (live : ℕ → Option (List ℤ)) (set grown : ℤ → Bool) (hint : ℕ) (more : List ℕ) (clause : List ℤ)
    (l : ℤ) → 0 < length more → live hint ≡ Some clause → IsUnitOutside set clause l →
    grown ≡ with_literal set (opposite l) → HintsHold live grown more → HintsHold live set (hint ∷ more)
unfolding HintsHold
hint_goes live set grown hint [] clause l some is unit grows holds = absurd (omega arith)
hint_goes live set grown hint (h ∷ hs) clause l some is unit grows holds =
    (clause, l, is, unit, subst (λ (s : ℤ → Bool). HintsHold live s (h ∷ hs)) grows holds)

-- the first i literals are in the set, but for the one that was found
abbrev pub HasSeen : (ℤ → Bool) → List ℤ → ℕ → Option ℤ → Type 0
HasSeen set lits i None = (k : ℕ) (d : ℤ) → k < i → set (slice_index_or lits k d) ≡ true
HasSeen set lits i (Some l) = Contains lits l × (set l ≡ false) × ((k : ℕ) (d : ℤ) → k < i → (slice_index_or lits k d ≡ l) ⊎ (set (slice_index_or lits k d) ≡ true))
