-- Looking for the one literal of a clause outside a set.
use Rattle.std.proofs.Common.{◌≡◌, ℕ, ◌<◌, ◌⊎◌, ◌↔◌, ℤ, Bool, true, false, List, [], ◌∷◌, length, Contains, Option, Some, None, slice_index_or, sym, ap, ◌∙◌, subst, arith}
use Rattle.sat_theory.specs.Formula.{opposite}
use Rattle.sat_theory.specs.HoldingLaws.{one_unit}
use Rattle.sat_theory.specs.Holding.{with_literal, IsUnitOutside, HintsHold}

-- the first i literals are in the set, except the one that was found
abbrev pub HasSeen : (ℤ → Bool) → List ℤ → ℕ → Option ℤ → Type 0
HasSeen set lits i None = (k : ℕ) (d : ℤ) → k < i → set (slice_index_or lits k d) ≡ true
HasSeen set lits i (Some l) = Contains lits l × (set l ≡ false) × ((k : ℕ) (d : ℤ) → k < i → (slice_index_or lits k d ≡ l) ⊎ (set (slice_index_or lits k d) ≡ true))

-- The clause of a hint before the last has one literal outside: the opposite joins the set, and the other hints
-- decide.
hint_goes : (live : ℕ → Option (List ℤ)) (set grown : ℤ → Bool) (hint h : ℕ) (hs : List ℕ) (clause : List ℤ) (l : ℤ) →
    live hint ≡ Some clause → IsUnitOutside set clause l → grown ≡ with_literal set (opposite l) →
    HintsHold live grown (h ∷ hs) → HintsHold live set (hint ∷ h ∷ hs)
unfolding HintsHold
hint_goes live set grown hint h hs clause l is unit grows holds =
    (clause, l, is, unit, subst (λ (s : ℤ → Bool). HintsHold live s (h ∷ hs)) grows holds)

hint_comes : (live : ℕ → Option (List ℤ)) (set grown : ℤ → Bool) (hint h : ℕ) (hs : List ℕ) (clause : List ℤ) (l : ℤ) →
    live hint ≡ Some clause → IsUnitOutside set clause l → grown ≡ with_literal set (opposite l) →
    HintsHold live set (hint ∷ h ∷ hs) → HintsHold live grown (h ∷ hs)
unfolding HintsHold
hint_comes live set grown hint h hs clause l is unit grows (other, m, other_is, other_unit, holds) =
    let same : other ≡ clause = cc in
    let unit_too : IsUnitOutside set clause m = subst (λ (c : List ℤ). IsUnitOutside set c m) same other_unit in
    let literals : m ≡ l = one_unit set clause m l unit_too unit in
    let sets : with_literal set (opposite m) ≡ grown = ap (λ (x : ℤ). with_literal set (opposite x)) literals ∙ sym grows in
    subst (λ (s : ℤ → Bool). HintsHold live s (h ∷ hs)) sets holds

pub hint_taken : (live : ℕ → Option (List ℤ)) (set grown : ℤ → Bool) (hint : ℕ) (more : List ℕ) (clause : List ℤ)
    (l : ℤ) → 0 < length more → live hint ≡ Some clause → IsUnitOutside set clause l →
    grown ≡ with_literal set (opposite l) → HintsHold live grown more ↔ HintsHold live set (hint ∷ more)
hint_taken live set grown hint [] clause l some is unit grows = absurd (omega arith)
hint_taken live set grown hint (h ∷ hs) clause l some is unit grows =
    (hint_goes live set grown hint h hs clause l is unit grows, hint_comes live set grown hint h hs clause l is unit grows)
