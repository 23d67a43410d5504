-- Orders that are built number by number: the order of the ranks is a permutation, and the inverse undoes it.
use Rattle.std.proofs.Common.{◌≡◌, ℕ, ◌+◌, ◌-◌, ◌<◌, ◌≤◌, List, [], ◌∷◌, ◌++◌, length, refl, sym, subst, arith, inl, inr}
use Rattle.std.specs.Prelude.{slice_index}
use Rattle.std.proofs.lemmas.Grind.{common_steps, get_or_default_zero}
use Rattle.std.proofs.lemmas.Bool.{cases_lt}
use Rattle.std.proofs.lemmas.List.{get_or_append_left, get_or_push, length_push}
use Rattle.spec_cache.specs.Order.{IsInput, IsOrder, IsPermuting, IsInverse, number}
use Rattle.spec_cache.specs.Ranks.{rank, rank_low, ranks_differ}

-- ---- numbers that each have a property

pub record AreEach (P : ℕ → ℕ → Type 0) (xs : List ℕ) (count : ℕ) : Type 0 where
  pub size : length xs ≡ count
  pub each : (i : ℕ) → i < count → P i (slice_index xs i)

pub each_none : (P : ℕ → ℕ → Type 0) → AreEach P [] 0
each_none P = record { size = refl; each = λ i low. absurd (omega (arith, low)) }

pub each_more : (P : ℕ → ℕ → Type 0) (xs : List ℕ) (count x : ℕ) → AreEach P xs count → P count x → AreEach P (xs ++ x ∷ []) (count + 1)
each_more P xs count x are here = record {
  size = omega (arith, are.size, length_push xs x);
  each = λ i low. elim (cases_lt i count) [
    | inl before ↦ subst (P i) (sym (get_or_append_left xs (x ∷ []) 0 i (omega (arith, before, are.size)))) (are.each i before)
    | inr last ↦
        let place : i ≡ length xs = omega (arith, low, last, are.size) in
        let at : i ≡ count = omega (arith, low, last) in
        subst (λ (k : ℕ). P k (slice_index (xs ++ x ∷ []) i)) (sym at) (subst (P count) (sym (get_or_push xs x 0 i (sym place))) here)
  ];
}

-- ---- the order of ranks

-- the number at an index is its rank, counted from 1
abbrev pub IsRanked : List ℕ → ℕ → ℕ → Type 0
IsRanked ws i x = x ≡ rank ws i + 1

ranked_input : (ws order : List ℕ) (i : ℕ) → AreEach (IsRanked ws) order (length ws) → i < length ws → IsInput (length ws) (slice_index order i)
ranked_input ws order i are low = (omega (arith, are.each i low), omega (arith, are.each i low, rank_low ws i low))

pub ranked_permuting : (ws order : List ℕ) (count : ℕ) → AreEach (IsRanked ws) order count → count ≡ length ws → IsPermuting (length ws) order
ranked_permuting ws order count some same = let are : AreEach (IsRanked ws) order (length ws) = subst (AreEach (IsRanked ws) order) same some in record {
  numbers = record {
    size = are.size;
    inputs = λ i d low. subst (IsInput (length ws)) (sym (get_or_default_zero order i d low)) (ranked_input ws order i are (omega (arith, low, are.size)));
  };
  different = λ i j from less to same.
      ranks_differ ws (i - 1) (j - 1) (omega (arith, from, less)) (omega (arith, from, less, to))
      (omega (arith, are.each (i - 1) (omega (arith, from, less, to)), are.each (j - 1) (omega (arith, from, less, to)), same));
}

-- ---- the inverse order

-- this place has the number x, if any place has it
abbrev pub IsPlaceOf : List ℕ → ℕ → ℕ → Type 0
IsPlaceOf order x place = (j : ℕ) → 1 ≤ j → j ≤ length order → number order j ≡ x → number order place ≡ x

-- an input whose number is i + 1, if there is one
pub record IsBackOf (order : List ℕ) (i x : ℕ) : Type 0 where
  pub input : IsInput (length order) x
  pub place : IsPlaceOf order (i + 1) x

pub back_orders : (order back : List ℕ) (count : ℕ) → AreEach (IsBackOf order) back count → count ≡ length order → IsOrder (length order) back
back_orders order back count some same = let are : AreEach (IsBackOf order) back (length order) = subst (AreEach (IsBackOf order) back) same some in record {
  size = are.size;
  inputs = λ i d low. subst (IsInput (length order)) (sym (get_or_default_zero back i d low)) (are.each i (omega (arith, low, are.size))).input;
}

-- no two places have one number
only_place : (n : ℕ) (order : List ℕ) (i j : ℕ) → IsPermuting n order → IsInput n i → IsInput n j → number order i ≡ number order j → i ≡ j
only_place n order i j is first second same = elim (cases_lt i j) [
  | inl less ↦ absurd (is.different i j first.0 less second.1 same)
  | inr most ↦ elim (cases_lt j i) [
    | inl more ↦ absurd (is.different j i second.0 more first.1 (sym same))
    | inr equal ↦ omega (arith, most, equal)
  ]
]

pub back_goes : (order back : List ℕ) (count : ℕ) → AreEach (IsBackOf order) back count → count ≡ length order → IsPermuting (length order) order → IsInverse (length order) order back
back_goes order back count some same is = record {
  each = λ j from to.
      let x : ℕ = number order j in
      let within : IsInput (length order) x = subst (IsInput (length order)) (get_or_default_zero order (j - 1) 0 (omega (arith, from, to))) (is.numbers.inputs (j - 1) 0 (omega (arith, from, to))) in
      let are : AreEach (IsBackOf order) back (length order) = subst (AreEach (IsBackOf order) back) same some in
      let at : IsBackOf order (x - 1) (slice_index back (x - 1)) = are.each (x - 1) (omega (arith, within.0, within.1)) in
      let here : x - 1 + 1 ≡ x = omega (arith, within.0) in
      let there : number order (number back x) ≡ x = subst (λ (k : ℕ). number order (number back x) ≡ k) here (at.place j from to (sym here)) in
      only_place (length order) order (number back x) j is at.input (from, to) there;
}

pub ruleset permuting = (common_steps, each_none, each_more, ranked_permuting, back_orders, back_goes)
