-- The literal that became false last is swapped to the front, and the others are reordered.
use Rattle.std.proofs.Common.{◌≡◌, ◌≢◌, ℕ, ◌<◌, ◌≤◌, ◌⊎◌, ℤ, Bool, true, List, length, slice_index_or, slice_set, Contains, All, AllPairs, subst, sym, ap, ◌∙◌, arith, inl, inr, refl}
use Rattle.std.specs.List.{swap}
use Rattle.std.specs.List.Sorted.{IsPermutation}
use Rattle.std.specs.Ordering.{int_eq}
use Rattle.std.proofs.Math.Logic.{⊎_elim}
use Rattle.std.proofs.lemmas.Bool.{cases_eq, cases_lt}
use Rattle.std.proofs.lemmas.List.{length-set, get_or-set_same, get_or-set_other}
use Rattle.std.proofs.lemmas.List.Edits.{length-swap, swap_is}
use Rattle.std.proofs.lemmas.List.Elements.{All-contains}
use Rattle.std.proofs.lemmas.List.Sorted.{All-permutation, Contains-permutation}
use Rattle.std.proofs.lemmas.Map.Keys.{IsDistinct-IsPermutation}
use Rattle.std.proofs.lemmas.Map.Made.{AllPairs-from_IsDistinct, IsDistinct-from_AllPairs}
use Rattle.std.proofs.lemmas.Bool.Decides.{Decides-int_eq}
use Rattle.std.proofs.lemmas.Grind.{common_steps}
use Rattle.cdcl_theory.specs.Codes.{marked_in}
use Rattle.trail_core.specs.Values.{IsOver}
use Rattle.conflict_core.specs.Markings.{AreOthers, HasFalsifiedAt}
use Rattle.conflict_core.specs.Learning.{IsMovedToFront}

-- the marked literals in another order
pub falsified_permuted : (positions : ℤ → ℕ) (old new : List ℤ) (p : ℕ) → IsPermutation old new → HasFalsifiedAt positions old p → HasFalsifiedAt positions new p
falsified_permuted positions old new p order (w, there, at) = (w, Contains-permutation old new w order there, at)

pub others_permuted : (vars : ℕ) (marks : List Bool) (first : ℤ) (old new : List ℤ) → IsPermutation old new → AreOthers vars marks first old → AreOthers vars marks first new
others_permuted vars marks first old new order others = record {
  over = All-permutation (IsOver vars) old new order others.over;
  inside = All-permutation (λ m. (marked_in marks m ≡ true) × (m ≢ first)) old new order others.inside;
  all = λ m marked. ⊎_elim (λ (is : m ≡ first). inl is) (λ (there : Contains old m). inr (Contains-permutation old new m order there)) (others.all m marked);
  differ = AllPairs-from_IsDistinct Decides-int_eq new (IsDistinct-IsPermutation int_eq flips old new order (IsDistinct-from_AllPairs Decides-int_eq old others.differ));
}
  where
    flips : (a b : ℤ) → int_eq a b ≡ int_eq b a
    flips a b = grind (arith, common_steps, Decides-int_eq a b, Decides-int_eq b a)

-- the old index of an entry of the list with two exchanged
record Stood (xs : List ℤ) (i k : ℕ) : Type 0 where
  pub index : ℕ
  pub inside : index < length xs
  pub same : (d : ℤ) → slice_index_or (swap xs 0 i) k d ≡ slice_index_or xs index d
  pub which : ((k ≡ i) × (index ≡ 0)) ⊎ (((k ≡ i → ⊥) × (k ≡ 0) × (index ≡ i)) ⊎ ((k ≡ i → ⊥) × (k ≡ 0 → ⊥) × (index ≡ k)))

stood : (xs : List ℤ) (i k : ℕ) → i < length xs → k < length xs → Stood xs i k
stood xs i k low within =
    ⊎_elim
    (λ (last : k ≡ i). record {
      index = 0;
      inside = some;
      same = λ d. sym (ap (λ (ys : List ℤ). slice_index_or ys k d) (swap_is xs 0 i d some low))
          ∙ ap (λ (j : ℕ). slice_index_or (slice_set (slice_set xs 0 (slice_index_or xs i d)) i (slice_index_or xs 0 d))
          j d) last ∙ get_or-set_same (slice_set xs 0 (slice_index_or xs i d)) i (slice_index_or xs 0 d) d
          (rw length-set low);
      which = inl (last, refl);
    })
    (λ (apart : k ≡ i → ⊥). ⊎_elim
    (λ (first : k ≡ 0). record {
      index = i;
      inside = low;
      same = λ d. sym (ap (λ (ys : List ℤ). slice_index_or ys k d) (swap_is xs 0 i d some low))
          ∙ get_or-set_other (slice_set xs 0 (slice_index_or xs i d)) i k (slice_index_or xs 0 d) d apart
          ∙ ap (λ (j : ℕ). slice_index_or (slice_set xs 0 (slice_index_or xs i d)) j d) first
          ∙ get_or-set_same xs 0 (slice_index_or xs i d) d some;
      which = inr (inl (apart, first, refl));
    })
    (λ (other : k ≡ 0 → ⊥). record {
      index = k;
      inside = within;
      same = λ d. sym (ap (λ (ys : List ℤ). slice_index_or ys k d) (swap_is xs 0 i d some low))
          ∙ get_or-set_other (slice_set xs 0 (slice_index_or xs i d)) i k (slice_index_or xs 0 d) d apart
          ∙ get_or-set_other xs 0 k (slice_index_or xs i d) d other;
      which = inr (inr (apart, other, refl));
    })
    (cases_eq k 0))
    (cases_eq k i)
  where
    some : 0 < length xs
    some = omega (arith, low)

swapped_all : (xs : List ℤ) (i : ℕ) (P : ℤ → Type 0) → i < length xs → All P xs → All P (swap xs 0 i)
swapped_all xs i P low all k d within =
    let was : Stood xs i k = stood xs i k low (rw length-swap at within) in
    subst P (sym (was.same d)) (all was.index d was.inside)

swapped_contains : (xs : List ℤ) (i : ℕ) (m : ℤ) → i < length xs → Contains xs m → Contains (swap xs 0 i) m
swapped_contains xs i m low (k, within, at) =
    ⊎_elim
    (λ (last : k ≡ i). (
      0,
      rw length-swap some,
      to_here 0 some (λ was. ⊎_elim (λ (a : (0 ≡ i) × (was.index ≡ 0)). a.1
          ∙ a.0 ∙ sym last) (λ (b : ((0 ≡ i → ⊥) × (0 ≡ 0) × (was.index ≡ i)) ⊎
          ((0 ≡ i → ⊥) × (0 ≡ 0 → ⊥) × (was.index ≡ 0))). ⊎_elim (λ (a : (0 ≡ i → ⊥) × (0 ≡ 0) × (was.index ≡ i)). a.2
          ∙ sym last) (λ (a : (0 ≡ i → ⊥) × (0 ≡ 0 → ⊥) × (was.index ≡ 0)). absurd (a.1 refl)) b) was.which),
    ))
    (λ (apart : k ≡ i → ⊥). ⊎_elim
    (λ (first : k ≡ 0). (
      i,
      rw length-swap low,
      to_here i low (λ was. ⊎_elim (λ (a : (i ≡ i) × (was.index ≡ 0)). a.1
          ∙ sym first) (λ (b : ((i ≡ i → ⊥) × (i ≡ 0) × (was.index ≡ i)) ⊎
          ((i ≡ i → ⊥) × (i ≡ 0 → ⊥) × (was.index ≡ i))). ⊎_elim (λ (a : (i ≡ i → ⊥) × (i ≡ 0) ×
          (was.index ≡ i)). absurd (a.0 refl)) (λ (a : (i ≡ i → ⊥) × (i ≡ 0 → ⊥) × (was.index ≡ i)). absurd (a.0 refl)) b)
          was.which),
    ))
    (λ (other : k ≡ 0 → ⊥). (
      k,
      rw length-swap within,
      to_here k within (λ was. ⊎_elim (λ (a : (k ≡ i) × (was.index ≡ 0)). absurd (apart a.0))
          (λ (b : ((k ≡ i → ⊥) × (k ≡ 0) × (was.index ≡ i)) ⊎ ((k ≡ i → ⊥) × (k ≡ 0 → ⊥) × (was.index ≡ k))). ⊎_elim
          (λ (a : (k ≡ i → ⊥) × (k ≡ 0) × (was.index ≡ i)). absurd (other a.1)) (λ (a : (k ≡ i → ⊥) × (k ≡ 0 → ⊥) ×
          (was.index ≡ k)). a.2) b) was.which),
    ))
    (cases_eq k 0))
    (cases_eq k i)
  where
    some : 0 < length xs
    some = omega (arith, low)

    to_here : (j : ℕ) (inside : j < length xs) → ((was : Stood xs i j) → was.index ≡ k) → slice_index_or (swap xs 0 i) j m ≡ m
    to_here j inside index = (let was : Stood xs i j = stood xs i j low inside in was.same m ∙ ap (λ (n : ℕ). slice_index_or xs n m) (index was) ∙ at)

differ_at : (xs : List ℤ) (a b : ℕ) (d : ℤ) → AllPairs (λ x y. x ≢ y) xs → a < length xs → b < length xs → (a ≡ b → ⊥) → slice_index_or xs a d ≡ slice_index_or xs b d → ⊥
differ_at xs a b d differ low_a low_b apart same =
    ⊎_elim (λ (less : a < b). differ a b d less low_b same) (λ (more : b ≤ a). differ b a d (omega (arith, more, apart)) low_a (sym same)) (cases_lt a b)

swapped_differ : (xs : List ℤ) (i : ℕ) → i < length xs → AllPairs (λ x y. x ≢ y) xs → AllPairs (λ x y. x ≢ y) (swap xs 0 i)
swapped_differ xs i low differ a b d less within same =
    let low_b : b < length xs = rw length-swap at within in
    let was_a : Stood xs i a = stood xs i a low (omega (arith, less, low_b)) in
    let was_b : Stood xs i b = stood xs i b low low_b in
    differ_at xs was_a.index was_b.index d differ was_a.inside was_b.inside (λ e. moved a b was_a.index was_b.index less was_a.which was_b.which e) (sym (was_a.same d) ∙ same ∙ was_b.same d)
  where
    moved : (a b p q : ℕ) → a < b → ((a ≡ i) × (p ≡ 0)) ⊎
        (((a ≡ i → ⊥) × (a ≡ 0) × (p ≡ i)) ⊎ ((a ≡ i → ⊥) × (a ≡ 0 → ⊥) × (p ≡ a))) → ((b ≡ i) × (q ≡ 0)) ⊎
        (((b ≡ i → ⊥) × (b ≡ 0) × (q ≡ i)) ⊎ ((b ≡ i → ⊥) × (b ≡ 0 → ⊥) × (q ≡ b))) → p ≡ q → ⊥
    moved a b p q less (inl x) (inl y) e = omega (arith, less, x.0, y.0)
    moved a b p q less (inl x) (inr (inl y)) e = omega (arith, less, y.1)
    moved a b p q less (inl x) (inr (inr y)) e = omega (arith, less, x.1, y.2, e)
    moved a b p q less (inr (inl x)) (inl y) e = omega (arith, less, x.1, x.2, y.0, y.1, e)
    moved a b p q less (inr (inl x)) (inr (inl y)) e = omega (arith, less, y.1)
    moved a b p q less (inr (inl x)) (inr (inr y)) e = y.0 (sym y.2 ∙ sym e ∙ x.2)
    moved a b p q less (inr (inr x)) (inl y) e = x.1 (sym x.2 ∙ e ∙ y.1)
    moved a b p q less (inr (inr x)) (inr (inl y)) e = omega (arith, less, y.1)
    moved a b p q less (inr (inr x)) (inr (inr y)) e = omega (arith, less, x.2, y.2, e)

-- A property of all literals, and one of some literal, are kept,
pub fronted_all : (positions : ℤ → ℕ) (back : ℕ) (old new : List ℤ) (P : ℤ → Type 0) → IsMovedToFront positions back old new → All P old → All P new
fronted_all positions back old new P (inl (i, low, is, at)) all = rw is (swapped_all old i P low all)
fronted_all positions back old new P (inr (is, none)) all = rw is all

pub fronted_contains : (positions : ℤ → ℕ) (back : ℕ) (old new : List ℤ) (m : ℤ) → IsMovedToFront positions back old new → Contains old m → Contains new m
fronted_contains positions back old new m (inl (i, low, is, at)) there = rw is (swapped_contains old i m low there)
fronted_contains positions back old new m (inr (is, none)) there = rw is there

pub fronted_falsified : (positions : ℤ → ℕ) (back : ℕ) (old new : List ℤ) → IsMovedToFront positions back old new → HasFalsifiedAt positions old back → HasFalsifiedAt positions new back
fronted_falsified positions back old new fronted (w, there, at) = (w, fronted_contains positions back old new w fronted there, at)

-- and so is that they are the marked ones but one.
pub fronted_others : (positions : ℤ → ℕ) (vars back : ℕ) (marks : List Bool) (first : ℤ) (old new : List ℤ) →
    IsMovedToFront positions back old new → AreOthers vars marks first old → AreOthers vars marks first new
fronted_others positions vars back marks first old new fronted others = record {
  over = fronted_all positions back old new (IsOver vars) fronted others.over;
  inside = fronted_all positions back old new (λ m. (marked_in marks m ≡ true) × (m ≢ first)) fronted others.inside;
  all = λ m is. ⊎_elim (λ (same : m ≡ first). inl same) (λ (there : Contains old m). inr (fronted_contains positions back old new m fronted there)) (others.all m is);
  differ = differ fronted;
}
  where
    differ : IsMovedToFront positions back old new → AllPairs (λ a b. a ≢ b) new
    differ (inl (i, low, is, at)) = rw is (swapped_differ old i low others.differ)
    differ (inr (is, none)) = rw is others.differ

-- The first one has the position `back`.
pub fronted_head : (positions : ℤ → ℕ) (back : ℕ) (old new : List ℤ) (d : ℤ) → IsMovedToFront positions back old new →
    All (λ m. 0 < positions m) new → All (λ m. positions m ≤ back) old →
    (0 < back → HasFalsifiedAt positions old back) → 0 < length new → positions (slice_index_or new 0 d) ≡ back
fronted_head positions back old new d (inl (i, low, is, at)) down all there some =
    let was : Stood old i 0 = stood old i 0 low (omega (arith, low)) in
    let index : was.index ≡ i = ⊎_elim (λ (a : (0 ≡ i) × (was.index ≡ 0)). a.1
    ∙ a.0) (λ (b : ((0 ≡ i → ⊥) × (0 ≡ 0) × (was.index ≡ i)) ⊎ ((0 ≡ i → ⊥) × (0 ≡ 0 → ⊥) × (was.index ≡ 0))). ⊎_elim
    (λ (a : (0 ≡ i → ⊥) × (0 ≡ 0) × (was.index ≡ i)). a.2) (λ (a : (0 ≡ i → ⊥) × (0 ≡ 0 → ⊥) ×
    (was.index ≡ 0)). absurd (a.1 refl)) b) was.which in
    ap positions (ap (λ (xs : List ℤ). slice_index_or xs 0 d) is ∙ was.same d ∙ ap (λ (n : ℕ). slice_index_or old n d) index) ∙ at d
fronted_head positions back old new d (inr (is, none)) down all there some =
    let first : 0 < positions (slice_index_or new 0 d) = down 0 d some in
    let low : positions (slice_index_or old 0 d) ≤ back = all 0 d (subst (λ (xs : List ℤ). 0 < length xs) is some) in
    let same : positions (slice_index_or new 0 d) ≡ positions (slice_index_or old 0 d) = ap (λ (xs : List ℤ). positions (slice_index_or xs 0 d)) is in
    let w : HasFalsifiedAt positions old back = there (omega (arith, first, low, same)) in
    absurd (All-contains (λ l. positions l ≢ back) old w.0 none w.1 w.2)

-- none so far has the position `back`
pub none_more : (positions : ℤ → ℕ) (lits : List ℤ) (i back : ℕ) → ((k : ℕ) (d : ℤ) → k < i → positions (slice_index_or lits k d) ≢ back) → length lits ≤ i → All (λ l. positions l ≢ back) lits
none_more positions lits i back none done k d within = none k d (omega (arith, within, done))
