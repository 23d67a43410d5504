-- The pairs of a step in a fence, for any place: they have lower places, and they are few.
use Rattle.std.proofs.Common.{◌≡◌, ℕ, zero, suc, ◌+◌, ◌-◌, ◌*◌, ◌<◌, ◌≤◌, Bool, List, [], ◌∷◌, All, length, refl, sym, ap, ◌∙◌, subst, arith, ⊎_elim}
use Rattle.std.specs.Prelude.{nat_lt, leb, if◌then◌else◌}
use Rattle.std.specs.List.{range_with_len, flat_map}
use Rattle.std.proofs.lemmas.Bool.{cases_lt, lt-ltb, le-ltb, le-leb, lt-leb, cond-true, cond-false}
use Rattle.std.proofs.lemmas.List.Elements.{All-nil}
use Rattle.enc_theory.specs.declared.data.Pair.{Pair}
use Rattle.enc_theory.specs.declared.data.Dimensions.{Dimensions}
use Rattle.enc_theory.specs.Numbering.{s_first}
use Rattle.enc_theory.specs.Pairs.{pairs_with, StepSlots, numbered, laid, layout}
use Rattle.enc_theory.specs.Fence.{places_under, fence_pairs}
use Rattle.enc_base.specs.Room.{IsPair}
use Rattle.clause_core.specs.CountLaws.{flat_map-each, flat_map-few}
use Rattle.enc_base.specs.PairLaws.{with-below, with-few}

-- the pairs of the step at a place; an input has none
unfoldable pub step_pairs : Bool → ℕ → List ℕ → ℕ → List Pair
step_pairs ordered n fence place = if leb place n then [] else fence_pairs ordered n fence place

-- ---- the places below are a range

record IsRow (first : ℕ) (bound : ℕ) (places : List ℕ) : Type 0 where
  from : ℕ
  count : ℕ
  is : places ≡ range_with_len from count
  low : first ≤ from
  high : from + count ≤ bound

under_is_row : (first count : ℕ) (fence : List ℕ) (k : ℕ) → IsRow first (first + count + k) (places_under first count fence k)
unfolding places_under
under_is_row first count [] k = record { from = first; count = 0; is = refl; low = omega arith; high = omega arith }
under_is_row first count (q ∷ qs) k = ⊎_elim
    (λ (here : k < q). record {
      from = first;
      count = count;
      is = cond-true (nat_lt k q) (range_with_len first count) (places_under (first + count) q qs (k - q)) (lt-ltb k q here);
      low = omega arith;
      high = omega arith;
    })
    (λ (past : q ≤ k).
    let more : IsRow (first + count) (first + count + q + (k - q)) (places_under (first + count) q qs (k - q)) = under_is_row (first + count) q qs (k - q) in
    let low = more.low in
    let high = more.high in
    record {
      from = more.from;
      count = more.count;
      is = cond-false (nat_lt k q) (range_with_len first count) (places_under (first + count) q qs (k - q)) (le-ltb k q past) ∙ more.is;
      low = omega arith;
      high = omega arith;
    })
    (cases_lt k q)

-- ---- their pairs

below_where : (ordered : Bool) (n : ℕ) (fence : List ℕ) (place : ℕ) → n < place → All (IsPair place) (fence_pairs ordered n fence place)
unfolding fence_pairs
below_where ordered n fence place step =
    let row = under_is_row 1 n fence (place - (n + 1)) in
    let row_low = row.low in
    let row_high = row.high in
    subst (λ (places : List ℕ). All (IsPair place) (flat_map (pairs_with ordered) places)) (sym row.is)
    (flat_map-each (IsPair place) (pairs_with ordered) row.from row.count (λ large low high. with-below place ordered large (omega arith) (omega arith)))

few_where : (ordered : Bool) (n : ℕ) (fence : List ℕ) (place : ℕ) → place ≤ 22 → n < place → length (fence_pairs ordered n fence place) ≤ 1000
unfolding fence_pairs
few_where ordered n fence place low step =
    let row = under_is_row 1 n fence (place - (n + 1)) in
    let row_low = row.low in
    let row_high = row.high in
    let all : length (flat_map (pairs_with ordered) (range_with_len row.from row.count)) ≤ row.count * 43 =
    flat_map-few (pairs_with ordered) 43 row.from row.count (λ large from to. with-few ordered large (omega arith)) in
    subst (λ (places : List ℕ). length (flat_map (pairs_with ordered) places) ≤ 1000) (sym row.is) (omega (arith, all))

pub none_of_input : (ordered : Bool) (n : ℕ) (fence : List ℕ) (place : ℕ) → place ≤ n → step_pairs ordered n fence place ≡ []
unfolding step_pairs
none_of_input ordered n fence place low = cond-true (leb place n) [] (fence_pairs ordered n fence place) (le-leb place n low)

pub those_of_step : (ordered : Bool) (n : ℕ) (fence : List ℕ) (place : ℕ) → n < place → step_pairs ordered n fence place ≡ fence_pairs ordered n fence place
unfolding step_pairs
those_of_step ordered n fence place step = cond-false (leb place n) [] (fence_pairs ordered n fence place) (lt-leb place n step)

-- both operands are places below the step
pub step_pairs-below : (ordered : Bool) (n : ℕ) (fence : List ℕ) (place : ℕ) → All (IsPair place) (step_pairs ordered n fence place)
step_pairs-below ordered n fence place = ⊎_elim
    (λ (step : n < place). subst (All (IsPair place)) (sym (those_of_step ordered n fence place step)) (below_where ordered n fence place step))
    (λ (low : place ≤ n). subst (All (IsPair place)) (sym (none_of_input ordered n fence place low)) (All-nil (IsPair place)))
    (cases_lt n place)

-- and they are few
pub step_pairs-few : (ordered : Bool) (n : ℕ) (fence : List ℕ) (place : ℕ) → place ≤ 22 → length (step_pairs ordered n fence place) ≤ 1000
step_pairs-few ordered n fence place low = ⊎_elim
    (λ (step : n < place). subst (λ (pairs : List Pair). length pairs ≤ 1000) (sym (those_of_step ordered n fence place step)) (few_where ordered n fence place low step))
    (λ (small : place ≤ n). subst (λ (pairs : List Pair). length pairs ≤ 1000) (sym (none_of_input ordered n fence place small)) (omega arith))
    (cases_lt n place)

-- ---- the layout

-- the steps from a place on, with the same pairs
laid-same : (a b : ℕ → List Pair) (v place count : ℕ) → ((p : ℕ) → place ≤ p → a p ≡ b p) → laid a v place count ≡ laid b v place count
unfolding laid
laid-same a b v place zero same = refl
laid-same a b v place (suc count) same =
    let own : a place ≡ b place = same place (omega arith) in
    ap (λ (pairs : List Pair). record { place = place; slots = numbered v pairs } ∷ laid a (v + length pairs) (place + 1) count) own
    ∙ ap (λ (steps : List StepSlots). record { place = place; slots = numbered v (b place) } ∷ steps) (laid-same a b (v + length (b place)) (place + 1) count (λ p from. same p (omega arith)))

pub layout-same : (ordered : Bool) (fence : List ℕ) (z : Dimensions) → layout (step_pairs ordered z.n fence) z ≡ layout (fence_pairs ordered z.n fence) z
layout-same ordered fence z = laid-same (step_pairs ordered z.n fence) (fence_pairs ordered z.n fence) (s_first z) (z.n + 1) z.r (λ p from. those_of_step ordered z.n fence p (omega arith))
