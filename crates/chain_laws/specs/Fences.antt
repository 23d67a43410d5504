-- Fences: the number of steps on each level, from the lowest (Haaswijk, Soeken, Mishchenko and De
-- Micheli, "SAT-Based Exact Synthesis", 2020). The steps of a chain in normal form are ordered by
-- level, so the chain has a fence.
use Rattle.std.proofs.Common.{◌≡◌, ℕ, zero, suc, ◌+◌, ◌-◌, ◌≤◌, ◌<◌, ◌==◌, true, List, [], ◌∷◌, map, length, ltb, leb, sum, refl, sym, ap, ◌∙◌, arith, inl, inr, ⊎_elim, subst}
use Rattle.std.specs.Prelude.{if◌then◌else◌}
use Rattle.std.specs.List.{All, range_with_len}
use Rattle.std.proofs.lemmas.Bool.{cases_lt, cases_order, le-leb, lt-leb, lt-ltb, le-ltb, eq-eqb, ne_eqb, leb-true, cond-true, cond-false}
use Rattle.std.proofs.lemmas.List.Sums.{sum_by-cons}
use Rattle.std.proofs.lemmas.List.FromFn.{get_or-map-range_with_len, length-map-range_with_len}
use Rattle.chain_theory.specs.Operator.{Basis}
use Rattle.chain_theory.specs.Specification.{Specification}
use Rattle.chain_theory.specs.Agreement.{HasChain}
use Rattle.chain_theory.specs.Chain.{Step, Chain, IsStepAt, IsChain}
use Rattle.op_basis.specs.Closed.{number}
use Rattle.fence_core.specs.Fence.{IsFence, IsListedFence}
use Rattle.chain_laws.specs.Follow.{step_at, step_at_get, place_cases}
use Rattle.chain_laws.specs.Keys.{larger}
use Rattle.chain_theory.specs.Levels.{level, HasLevels}
use Rattle.chain_theory.specs.LevelLaws.{input_level, level_step}
use Rattle.chain_theory.specs.Levels.{HasChainOfLevels}
use Rattle.chain_laws.specs.NormalForm.{HasNormalFormChain}
use Rattle.chain_laws.specs.Least.{least}
use Rattle.chain_laws.specs.LevelOrder.{KeysRise, levels_rise, level_of_larger}
use Rattle.chain_laws.specs.Tallies.{tally, tally_apart, tally_both, tally_none, tally_all, tally_some, prefix_passes, prefix_fails, IsDownwardClosed, number_true, number_false}
use Rattle.chain_laws.specs.Users.{width, AreOutsOrRead, level_counts}

-- ---- definitions

-- the level of the step of index i, where steps are ordered by level, with the list's numbers of steps
-- on each
-- Example: in the fence 2, 1 the steps of the indices 0, 1 and 2 have the levels 1, 1 and 2.
unfoldable pub level_by : List ℕ → ℕ → ℕ
level_by [] i = 0
level_by (q ∷ qs) i = if ltb i q then 1 else 1 + level_by qs (i - q)

-- The chain has the fence: its steps are ordered by level, with the fence's number of steps on each.
pub record IsInFence (c : Chain) (fence : List ℕ) : Type 0 where
  pub whole : sum fence ≡ length c.steps
  pub filled : IsFence fence
  pub levels : (i : ℕ) → i < length c.steps → level c (c.n + 1 + i) ≡ level_by fence i

-- the fence of a chain whose steps are ordered by level: how many steps have the levels 1, 2 and so
-- on, up to the level of the last place
unfoldable pub fence_of : Chain → List ℕ
fence_of c = map (width c) (range_with_len 1 (level c (c.n + length c.steps)))

-- ---- numbers that increase along their indices

-- the numbers f 0 to f (r - 1) increase from 1 to top, and each number between is one of them
record Climbs (f : ℕ → ℕ) (r top : ℕ) : Type 0 where
  rise : (i k : ℕ) → i ≤ k → k < r → f i ≤ f k
  from : (i : ℕ) → i < r → 1 ≤ f i
  under : (i : ℕ) → i < r → f i ≤ top
  full : (l : ℕ) → 1 ≤ l → l ≤ top → (i : ℕ) × (i < r) × (f i ≡ l)

-- how many of the numbers are l, are above l, and are at most l
unfoldable at : (ℕ → ℕ) → ℕ → ℕ → ℕ
at f r l = tally (λ i. f i == l) r

unfoldable over : (ℕ → ℕ) → ℕ → ℕ → ℕ
over f r l = tally (λ i. ltb l (f i)) r

unfoldable upto : (ℕ → ℕ) → ℕ → ℕ → ℕ
upto f r l = tally (λ i. leb (f i) l) r

level_cases : (x l : ℕ) → (number (ltb l x) ≡ number (x == l + 1) + number (ltb (l + 1) x)) × (number (leb x l) + number (ltb l x) ≡ 1)
level_cases x l = elim (cases_order x (l + 1)) [
  | inl same ↦
      let a = number_true (ltb l x) (lt-ltb l x (omega (arith, same))) in
      let b = number_true (x == l + 1) (eq-eqb x (l + 1) same) in
      let c = number_false (ltb (l + 1) x) (le-ltb (l + 1) x (omega (arith, same))) in
      let d = number_false (leb x l) (lt-leb x l (omega (arith, same))) in
      (omega (arith, a, b, c), omega (arith, a, d))
  | inr (inl less) ↦
      let a = number_false (ltb l x) (le-ltb l x (omega (arith, less))) in
      let b = number_false (x == l + 1) (ne_eqb x (l + 1) (λ e. omega (arith, less, e))) in
      let c = number_false (ltb (l + 1) x) (le-ltb (l + 1) x (omega (arith, less))) in
      let d = number_true (leb x l) (le-leb x l (omega (arith, less))) in
      (omega (arith, a, b, c), omega (arith, a, d))
  | inr (inr more) ↦
      let a = number_true (ltb l x) (lt-ltb l x (omega (arith, more))) in
      let b = number_false (x == l + 1) (ne_eqb x (l + 1) (λ e. omega (arith, more, e))) in
      let c = number_true (ltb (l + 1) x) (lt-ltb (l + 1) x more) in
      let d = number_false (leb x l) (lt-leb x l (omega (arith, more))) in
      (omega (arith, a, b, c), omega (arith, a, d))
]

over_next : (f : ℕ → ℕ) (r l : ℕ) → over f r l ≡ at f r (l + 1) + over f r (l + 1)
unfolding over at
over_next f r l =
    let most = tally_both (λ i. f i == l + 1) (λ i. ltb (l + 1) (f i)) (λ i. ltb l (f i)) r (λ i low. omega (arith, (level_cases (f i) l).0)) in
    let least = tally_apart (λ i. f i == l + 1) (λ i. ltb (l + 1) (f i)) (λ i. ltb l (f i)) r (λ i low. omega (arith, (level_cases (f i) l).0)) in
    omega (arith, most, least)

upto_over : (f : ℕ → ℕ) (r l : ℕ) → upto f r l + over f r l ≡ r
unfolding upto over
upto_over f r l =
    let all : tally (λ i. true) r ≡ r = tally_all (λ i. true) r (λ i low. refl) in
    let most = tally_both (λ i. leb (f i) l) (λ i. ltb l (f i)) (λ i. true) r (λ i low. omega (arith, (level_cases (f i) l).1)) in
    let least = tally_apart (λ i. leb (f i) l) (λ i. ltb l (f i)) (λ i. true) r (λ i low. omega (arith, (level_cases (f i) l).1)) in
    omega (arith, all, most, least)

over_top : (f : ℕ → ℕ) (r top : ℕ) → Climbs f r top → over f r top ≡ 0
unfolding over
over_top f r top is = tally_none (λ i. ltb top (f i)) r (λ i low. le-ltb top (f i) (is.under i low))

over_bottom : (f : ℕ → ℕ) (r top : ℕ) → Climbs f r top → over f r 0 ≡ r
unfolding over
over_bottom f r top is = tally_all (λ i. ltb 0 (f i)) r (λ i low. lt-ltb 0 (f i) (is.from i low))

-- how many are a + 1, a + 2, and so on
abbrev counts : (ℕ → ℕ) → ℕ → ℕ → ℕ → List ℕ
counts f r a k = map (at f r) (range_with_len (a + 1) k)

counts_sum : (f : ℕ → ℕ) (r a k : ℕ) → sum (counts f r a k) + over f r (a + k) ≡ over f r a
counts_sum f r a zero = let e : over f r (a + 0) ≡ over f r a = ap (over f r) (let x : a + 0 ≡ a = omega arith in x) in omega (arith, e)
counts_sum f r a (suc k) =
    let rest : sum (counts f r (a + 1) k) + over f r (a + 1 + k) ≡ over f r (a + 1) = counts_sum f r (a + 1) k in
    let e : over f r (a + suc k) ≡ over f r (a + 1 + k) = ap (over f r) (let x : a + suc k ≡ a + 1 + k = omega arith in x) in
    let whole : sum (counts f r a (suc k)) ≡ at f r (a + 1) + sum (counts f r (a + 1) k) = sum_by-cons (λ (q : ℕ). q) (at f r (a + 1)) (counts f r (a + 1) k) in
    omega (arith, whole, rest, e, over_next f r a)

counts_listed : (f : ℕ → ℕ) (r top m : ℕ) → Climbs f r top → ((l : ℕ) → at f r l ≤ over f r l + m) → (a k : ℕ) → a + k ≡ top → IsListedFence m (counts f r a k)
counts_listed f r top m is few a zero e = tt
counts_listed f r top m is few a (suc k) e =
    let next : a + 1 + k ≡ top = omega arith in
    let rest : sum (counts f r (a + 1) k) + over f r (a + 1 + k) ≡ over f r (a + 1) = counts_sum f r (a + 1) k in
    (omega (arith, few (a + 1), rest, ap (over f r) next, over_top f r top is), counts_listed f r top m is few (a + 1) k next)

counts_filled : (f : ℕ → ℕ) (r top : ℕ) → Climbs f r top → All (λ q. 1 ≤ q) (counts f r 0 top)
unfolding at
counts_filled f r top is = λ k d low.
    let inside : k < top = omega (arith, length-map-range_with_len (at f r) 1 top) in
    let here = get_or-map-range_with_len (at f r) 1 top k (1 + k) d inside refl in
    let there = is.full (1 + k) (omega arith) (omega arith) in
    subst (λ (q : ℕ). 1 ≤ q) (sym here) (tally_some (λ i. f i == 1 + k) r there.0 there.1 (eq-eqb (f there.0) (1 + k) there.2))

upto_prefix : (f : ℕ → ℕ) (r top l : ℕ) → Climbs f r top → IsDownwardClosed (λ i. leb (f i) l) r
upto_prefix f r top l is i k le low passes = le-leb (f i) l (omega (arith, is.rise i k le low, leb-true (f k) l passes))

upto_passes : (f : ℕ → ℕ) (r top l i : ℕ) → Climbs f r top → i < r → f i ≤ l → i < upto f r l
unfolding upto
upto_passes f r top l i is low le = prefix_passes (λ k. leb (f k) l) r i (upto_prefix f r top l is) low (le-leb (f i) l le)

upto_fails : (f : ℕ → ℕ) (r top l i : ℕ) → Climbs f r top → i < r → l < f i → upto f r l ≤ i
unfolding upto
upto_fails f r top l i is low more = prefix_fails (λ k. leb (f k) l) r i (upto_prefix f r top l is) low (lt-leb (f i) l more)

counts_levels : (f : ℕ → ℕ) (r top : ℕ) → Climbs f r top → (a k : ℕ) → a + k ≡ top → (i : ℕ) → i < r → a < f i → level_by (counts f r a k) (i - upto f r a) + a ≡ f i
unfolding level_by
counts_levels f r top is a zero e i low more = absurd (omega (arith, is.under i low))
counts_levels f r top is a (suc k) e i low more =
    let q : ℕ = at f r (a + 1) in
    let start : ℕ = upto f r a in
    let rest : List ℕ = counts f r (a + 1) k in
    let place : ℕ = i - start in
    let begun : start ≤ i = upto_fails f r top a i is low more in
    let ends : upto f r (a + 1) ≡ start + q = omega (arith, upto_over f r a, upto_over f r (a + 1), over_next f r a) in
    let later : ℕ = 1 + level_by rest (place - q) in
    ⊎_elim
    (λ (further : a + 1 < f i).
    let past : upto f r (a + 1) ≤ i = upto_fails f r top (a + 1) i is low further in
    let other : (if ltb place q then 1 else later) ≡ later = cond-false (ltb place q) 1 later (le-ltb place q (omega (arith, past, ends))) in
    let moved : place - q ≡ i - upto f r (a + 1) = omega (arith, ends) in
    let there : level_by rest (i - upto f r (a + 1)) + (a + 1) ≡ f i = counts_levels f r top is (a + 1) k (omega arith) i low further in
    omega (arith, other, ap (level_by rest) moved, there))
    (λ (here : f i ≤ a + 1).
    let inside : i < upto f r (a + 1) = upto_passes f r top (a + 1) i is low here in
    let own : (if ltb place q then 1 else later) ≡ 1 = cond-true (ltb place q) 1 later (lt-ltb place q (omega (arith, inside, ends, begun))) in
    omega (arith, own))
    (cases_lt (a + 1) (f i))

-- ---- chains

full_levels : (c : Chain) → IsChain c → KeysRise c → (gap l : ℕ) → l + gap ≡ level c (c.n + length c.steps) → 1 ≤ l → (i : ℕ) × (i < length c.steps) × (level c (c.n + 1 + i) ≡ l)
full_levels c is keys zero l e from =
    let r : ℕ = length c.steps in
    let last : ℕ = c.n + r in
    let own : level c last ≡ l = omega arith in
    ⊎_elim
    (λ (is_input : last ≤ c.n). absurd (omega (arith, input_level c.n last c.steps is_input, own)))
    (λ (is_step : (i : ℕ) × (i < r) × (last ≡ c.n + 1 + i)). (is_step.0, is_step.1, ap (level c) (sym is_step.2) ∙ own))
    (place_cases c.n r last (omega arith))
full_levels c is keys (suc gap) l e from =
    let r : ℕ = length c.steps in
    let higher = full_levels c is keys gap (l + 1) (omega arith) (omega arith) in
    let a : Step = step_at c.steps higher.0 in
    let at_it = step_at_get c.steps higher.0 higher.1 in
    let here : IsStepAt (c.n + 1 + higher.0) a = is.steps.each higher.0 a at_it in
    let by : level c (c.n + 1 + higher.0) ≡ 1 + level c (larger a) = level_of_larger c is keys higher.0 a at_it in
    let own : level c (larger a) ≡ l = omega (arith, by, higher.2) in
    ⊎_elim
    (λ (is_input : larger a ≤ c.n). absurd (omega (arith, input_level c.n (larger a) c.steps is_input, own)))
    (λ (is_step : (i : ℕ) × (i < r) × (larger a ≡ c.n + 1 + i)). (is_step.0, is_step.1, ap (level c) (sym is_step.2) ∙ own))
    (place_cases c.n r (larger a) (omega (arith, here.j_below, here.k_below, higher.1)))

climbs : (c : Chain) → IsChain c → KeysRise c → Climbs (λ i. level c (c.n + 1 + i)) (length c.steps) (level c (c.n + length c.steps))
climbs c is keys = record {
  rise = λ i k le low. levels_rise c is keys (c.n + 1 + i) (c.n + 1 + k) (omega arith) (omega arith) (omega arith);
  from = λ i low. let own = level_step c.n c.steps is.steps i (step_at c.steps i) (step_at_get c.steps i low) in omega (arith, own);
  under = λ i low. levels_rise c is keys (c.n + 1 + i) (c.n + length c.steps) (omega arith) (omega arith) (omega arith);
  full = λ l from low. full_levels c is keys (level c (c.n + length c.steps) - l) l (omega arith) from;
}

fence_is : (c : Chain) → fence_of c ≡ counts (λ i. level c (c.n + 1 + i)) (length c.steps) 0 (level c (c.n + length c.steps))
unfolding fence_of at
fence_is c = refl

count_at : (c : Chain) → IsChain c → AreOutsOrRead c → (l : ℕ) → at (λ i. level c (c.n + 1 + i)) (length c.steps) l ≤ over (λ i. level c (c.n + 1 + i)) (length c.steps) l + length c.outs
unfolding at over
count_at c is used l = level_counts c is used l

-- A chain whose keys don't decrease has its fence;
pub is_in_fence : (c : Chain) → IsChain c → KeysRise c → IsInFence c (fence_of c)
is_in_fence c is keys =
    let f : ℕ → ℕ = λ i. level c (c.n + 1 + i) in
    let r : ℕ = length c.steps in
    let top : ℕ = level c (c.n + r) in
    let up : Climbs f r top = climbs c is keys in
    let none : over f r (0 + top) ≡ 0 = ap (over f r) (let e : 0 + top ≡ top = omega arith in e) ∙ over_top f r top up in
    subst (IsInFence c) (sym (fence_is c)) (record {
      whole = omega (arith, counts_sum f r 0 top, none, over_bottom f r top up);
      filled = counts_filled f r top up;
      levels = λ i low.
          let start : upto f r 0 ≡ 0 = omega (arith, upto_over f r 0, over_bottom f r top up) in
          let there : level_by (counts f r 0 top) (i - upto f r 0) + 0 ≡ f i = counts_levels f r top up 0 top (omega arith) i low (up.from i low) in
          omega (arith, there, ap (level_by (counts f r 0 top)) (let e : i - upto f r 0 ≡ i = omega (arith, start) in e));
    })

-- the fence is listed, where each step is an out or is read;
pub fence_is_listed : (c : Chain) → IsChain c → KeysRise c → AreOutsOrRead c → IsListedFence (length c.outs) (fence_of c)
fence_is_listed c is keys used =
    let f : ℕ → ℕ = λ i. level c (c.n + 1 + i) in
    let r : ℕ = length c.steps in
    let top : ℕ = level c (c.n + r) in
    subst (IsListedFence (length c.outs)) (sym (fence_is c)) (counts_listed f r top (length c.outs) (climbs c is keys) (count_at c is used) 0 top (omega arith))

-- and it has no more levels than the chain.
pub fence_is_low : (c : Chain) → IsChain c → (d : ℕ) → HasLevels d c → length (fence_of c) ≤ d
unfolding fence_of
fence_is_low c is d levels =
    let last : ℕ = c.n + length c.steps in
    let count : length (fence_of c) ≡ level c last = length-map-range_with_len (width c) 1 (level c last) in
    ⊎_elim
    (λ (some : 0 < last). omega (arith, count, levels last some (omega arith)))
    (λ (none : last ≤ 0). omega (arith, count, input_level c.n last c.steps (omega arith)))
    (cases_lt 0 last)

-- a chain in normal form of r steps and at most d levels, with a listed fence of at most d levels
pub record HasFencedChain (s : Specification) (basis : Basis) (r d : ℕ) : Type 0 where
  pub normal_form : HasNormalFormChain s basis r d
  pub fence : List ℕ
  pub stands : IsInFence normal_form.has.chain fence
  pub listed : IsListedFence s.outputs fence
  pub low : length fence ≤ d

-- If a chain of r steps and at most d levels agrees, and none of fewer steps does, a chain in normal
-- form with a listed fence of at most d levels agrees.
pub least_in_fence : (s : Specification) (basis : Basis) (r d : ℕ) → HasChainOfLevels s basis r d → ((q : ℕ) → q < r → HasChain s basis q → ⊥) → HasFencedChain s basis r d
least_in_fence s basis r d has none_fewer =
    let is : HasNormalFormChain s basis r d = least s basis r d has none_fewer in
    let c : Chain = is.has.chain in
    record {
      normal_form = is;
      fence = fence_of c;
      stands = is_in_fence c is.has.is_chain is.normal_form.in_order;
      listed = subst (λ (m : ℕ). IsListedFence m (fence_of c)) is.has.agrees.outputs (fence_is_listed c is.has.is_chain is.normal_form.in_order is.normal_form.used);
      low = fence_is_low c is.has.is_chain d is.has.levels;
    }
