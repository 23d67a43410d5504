-- The ranks of weights, no two of which are equal.
use Rattle.std.proofs.Common.{◌≡◌, ℕ, zero, suc, ◌+◌, ◌<◌, ◌≤◌, ◌⊎◌, Bool, true, false, ◌||◌, ◌&&◌, ◌==◌, List, length, refl, sym, ap, ◌∙◌, arith, inl, inr, add-one}
use Rattle.std.specs.Prelude.{nat_lt, slice_index}
use Rattle.std.proofs.lemmas.Grind.{common_steps}
use Rattle.std.proofs.lemmas.Bool.{cases_lt, cases_eq, or_cases, or_left, or_right, and_parts, and_from, lt-ltb, ltb-true, eq-eqb, eqb-true, false_from_ne_true}
use Rattle.op_basis.specs.Closed.{number}
use Rattle.chain_laws.specs.Tallies.{tally, tally_all, number_true, number_false}

-- the weight at the index `other` sorts before that at `index`: it is smaller, or equal with a smaller index
unfoldable pub comes_before : List ℕ → ℕ → ℕ → Bool
comes_before ws index other = nat_lt (slice_index ws other) (slice_index ws index) || (slice_index ws other == slice_index ws index && nat_lt other index)

-- how many weights sort before that at an index
-- Example: the ranks of the weights 7, 3, 7 are 1, 0, 2.
abbrev pub rank : List ℕ → ℕ → ℕ
rank ws index = tally (comes_before ws index) (length ws)

-- ---- the order of weights

abbrev IsBefore : List ℕ → ℕ → ℕ → Type 0
IsBefore ws index other = (slice_index ws other < slice_index ws index) ⊎ ((slice_index ws other ≡ slice_index ws index) × (other < index))

before_is : (ws : List ℕ) (index other : ℕ) → comes_before ws index other ≡ true → IsBefore ws index other
unfolding comes_before
before_is ws index other e = elim (or_cases (nat_lt (slice_index ws other) (slice_index ws index)) (slice_index ws other == slice_index ws index && nat_lt other index) e) [
  | inl less ↦ inl (ltb-true (slice_index ws other) (slice_index ws index) less)
  | inr both ↦
      let parts = and_parts (slice_index ws other == slice_index ws index) (nat_lt other index) both in
      inr (eqb-true (slice_index ws other) (slice_index ws index) parts.0, ltb-true other index parts.1)
]

is_before : (ws : List ℕ) (index other : ℕ) → IsBefore ws index other → comes_before ws index other ≡ true
unfolding comes_before
is_before ws index other (inl less) = or_left (nat_lt (slice_index ws other) (slice_index ws index))
    (slice_index ws other == slice_index ws index &&
    nat_lt other index) (lt-ltb (slice_index ws other) (slice_index ws index) less)
is_before ws index other (inr both) =
    or_right (nat_lt (slice_index ws other) (slice_index ws index)) (slice_index ws other == slice_index ws index && nat_lt other index)
    (and_from (slice_index ws other == slice_index ws index) (nat_lt other index) (eq-eqb (slice_index ws other) (slice_index ws index) both.0) (lt-ltb other index both.1))

-- no weight comes before itself
not_itself : (ws : List ℕ) (index : ℕ) → comes_before ws index index ≡ false
not_itself ws index = false_from_ne_true (comes_before ws index index) (λ e. elim (before_is ws index index e) [
  | inl less ↦ absurd (omega (arith, less))
  | inr both ↦ absurd (omega (arith, both.1))
])

-- sorting before is transitive
still_before : (ws : List ℕ) (i j k : ℕ) → comes_before ws j i ≡ true → comes_before ws i k ≡ true → comes_before ws j k ≡ true
still_before ws i j k first second = is_before ws j k (joined (before_is ws j i first) (before_is ws i k second))
  where
    joined : IsBefore ws j i → IsBefore ws i k → IsBefore ws j k
    joined (inl a) (inl b) = inl (omega (arith, a, b))
    joined (inl a) (inr b) = inl (omega (arith, a, b.0))
    joined (inr a) (inl b) = inl (omega (arith, a.0, b))
    joined (inr a) (inr b) = inr (omega (arith, a.0, b.0), omega (arith, a.1, b.1))

-- of two different indices one sorts before the other
one_before : (ws : List ℕ) (i j : ℕ) → i < j → (comes_before ws j i ≡ true) ⊎ (comes_before ws i j ≡ true)
one_before ws i j less = elim (cases_lt (slice_index ws j) (slice_index ws i)) [
  | inl smaller ↦ inr (is_before ws i j (inl smaller))
  | inr most ↦ elim (cases_eq (slice_index ws i) (slice_index ws j)) [
    | inl same ↦ inl (is_before ws j i (inr (same, less)))
    | inr other ↦ inl (is_before ws j i (inl (smaller_of (slice_index ws i) (slice_index ws j) most other)))
  ]
]
  where
    smaller_of : (a b : ℕ) → a ≤ b → (a ≡ b → ⊥) → a < b
    smaller_of a b most other = elim (cases_lt a b) [
      | inl less ↦ less
      | inr same ↦ absurd (other (omega (arith, most, same)))
    ]

-- ---- counts

-- a test that passes wherever another one does, and at one more index
tally_strict : (f g : ℕ → Bool) (n i : ℕ) → i < n → f i ≡ false → g i ≡ true → ((k : ℕ) → f k ≡ true → g k ≡ true) → tally f n < tally g n
unfolding tally
tally_strict f g zero i low fails passes more = absurd (omega (arith, low))
tally_strict f g (suc n) i low fails passes more = elim (cases_lt i n) [
  | inl below ↦ omega (arith, tally_strict f g n i below fails passes more, no_less (f n) (g n) (more n))
  | inr last ↦
      let here : i ≡ n = omega (arith, low, last) in
      omega (arith, tally_weak n, number_false (f n) (sym (ap f here) ∙ fails), number_true (g n) (sym (ap g here) ∙ passes))
]
  where
    no_less : (a b : Bool) → (a ≡ true → b ≡ true) → number a ≤ number b
    no_less false b e = omega arith
    no_less true b e = omega (arith, number_true b (e refl))

    tally_weak : (m : ℕ) → tally f m ≤ tally g m
    tally_weak zero = omega arith
    tally_weak (suc m) = omega (arith, tally_weak m, no_less (f m) (g m) (more m))

rank_less : (ws : List ℕ) (i j : ℕ) → i < length ws → comes_before ws j i ≡ true → rank ws i < rank ws j
rank_less ws i j low before = tally_strict (comes_before ws i) (comes_before ws j) (length ws) i low (not_itself ws i) before (λ k e. still_before ws i j k before e)

-- a rank is an index
pub rank_low : (ws : List ℕ) (index : ℕ) → index < length ws → rank ws index < length ws
rank_low ws index low =
    let all : tally (λ k. true) (length ws) ≡ length ws = tally_all (λ k. true) (length ws) (λ k k_low. refl) in
    omega (arith, all, tally_strict (comes_before ws index) (λ k. true) (length ws) index low (not_itself ws index) refl (λ k e. refl))

-- no two ranks are equal
pub ranks_differ : (ws : List ℕ) (i j : ℕ) → i < j → j < length ws → rank ws i ≡ rank ws j → ⊥
ranks_differ ws i j less low same = elim (one_before ws i j less) [
  | inl first ↦ omega (arith, same, rank_less ws i j (omega (arith, less, low)) first)
  | inr second ↦ omega (arith, same, rank_less ws j i low second)
]

-- ---- the loop

pub tally_start : (test : ℕ → Bool) → tally test 0 ≡ 0
unfolding tally
tally_start test = refl

pub tally_next : (test : ℕ → Bool) (k : ℕ) → tally test (k + 1) ≡ tally test k + number (test k)
unfolding tally
tally_next test k = rw add-one refl

pub ruleset ranking = (common_steps, tally_start, tally_next, rank_low)
