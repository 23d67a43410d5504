-- What the counts mean: the inputs that are counted are used, and the outputs that are counted
-- differ; so no chain of fewer steps agrees.
use Rattle.std.proofs.Common.{◌≡◌, ◌≢◌, ◌⊎◌, ℕ, zero, suc, ◌+◌, ◌-◌, ◌*◌, ◌<◌, ◌≤◌, ◌^◌, ◌==◌, Bool, true, false, ◌&&◌}
use Rattle.std.proofs.Common.{◌||◌, not, List, [], ◌∷◌, length, Contains, All, refl, sym, ap, ◌∙◌, subst, arith, inl}
use Rattle.std.proofs.Common.{inr}
use Rattle.std.specs.Prelude.{if◌then◌else◌, AllPairs, slice_index_or, bit_or, max}
use Rattle.std.specs.Int.{bit_at}
use Rattle.std.proofs.lemmas.Grind.{common_steps}
use Rattle.std.proofs.lemmas.Bool.{cases_lt, cases_Bool, cond_both}
use Rattle.std.proofs.lemmas.List.Elements.{Contains-append_right, Contains-get_or}
use Rattle.std.proofs.lemmas.List.Kept.{AllPairs-cons}
use Rattle.std.proofs.lemmas.Nat.{or_lt, or_disjoint, pow_pos}
use Rattle.std.proofs.Math.Nat.{two-pow-succ}
use Rattle.std.proofs.Math.Pow.{pow_mono}
use Rattle.std.proofs.lemmas.Nat.Bits.{bit_at_or, bit_at-pow_other, bit_at-lt, and_pow}
use Rattle.chain_theory.specs.Operator.{Basis, digit}
use Rattle.chain_theory.specs.Specification.{Specification, input}
use Rattle.chain_theory.specs.Levels.{greatest}
use Rattle.chain_theory.specs.Agreement.{HasChain}
use Rattle.chain_theory.specs.declared.data.Cell.{Cell}
use Rattle.chain_theory.specs.declared.data.Cell.TheVariants.{Zero, One, Free}
use Rattle.tt_core.specs.Live.{is_live}
use Rattle.bound_core.specs.Support.{are_opposite, IsInSupport, AreInSupports, OutputsDiffer, AreLiveApart}
use Rattle.bound_core.specs.Counts.{some_below, count_below, is_sensitive_on, uses, uses_next, live_next, live_uses, is_in_use, differ_on, differ, live_compatible, is_new, single, fewest}
use Rattle.bound_core.specs.Needed.{inputs_few}
use Rattle.bound_core.specs.Different.{outputs_few}

pub true_false : true ≡ false → ⊥
true_false e = cc

-- ---- numbers that pass

pub and_parts : (a b : Bool) → (a && b) ≡ true → (a ≡ true) × (b ≡ true)
and_parts true b e = (refl, e)
and_parts false b e = absurd cc

or_parts : (a b : Bool) → (a || b) ≡ true → (a ≡ true) ⊎ (b ≡ true)
or_parts true b e = inl refl
or_parts false b e = inr e

not_true : (b : Bool) → not b ≡ true → b ≡ false
not_true true e = absurd cc
not_true false e = refl

pub no_digit : (x : ℕ) → x < 2 → (x == 1) ≡ false → x ≡ 0
no_digit zero low e = refl
no_digit (suc zero) low e = absurd cc
no_digit (suc (suc x)) low e = absurd (omega arith)

-- a number that passes, where `some_below` says that there is one
pub some_passes : (test : ℕ → Bool) (k : ℕ) → some_below test k ≡ true → (t : ℕ) × (t < k) × (test t ≡ true)
unfolding some_below
some_passes test zero e = absurd cc
some_passes test (suc k) e = elim (or_parts (some_below test k) (test k) e) [
  | inl below ↦ let found = some_passes test k below in (found.0, omega (arith, found.1), found.2)
  | inr last ↦ (k, omega arith, last)
]

-- where a number passes, `some_below` says so
pub passes_some : (test : ℕ → Bool) (k t : ℕ) → t < k → test t ≡ true → some_below test k ≡ true
unfolding some_below
passes_some test zero t low e = absurd (omega arith)
passes_some test (suc k) t low e = elim (cases_lt t k) [
  | inl below ↦ rw (passes_some test k t below e) refl
  | inr past ↦
      let same : t ≡ k = omega arith in
      let last : test k ≡ true = ap test (sym same) ∙ e in
      grind (arith, common_steps)
]

-- 1 + each number below k that passes, the greatest one first
unfoldable pub those : (ℕ → Bool) → ℕ → List ℕ
those test zero = []
those test (suc k) = if test k then suc k ∷ those test k else those test k

-- the list is as long as the count
pub those_count : (test : ℕ → Bool) (k : ℕ) → length (those test k) ≡ count_below test k
unfolding those count_below
those_count test zero = refl
those_count test (suc k) = by (test k) (those_count test k)
  where
    by : (passes : Bool) → length (those test k) ≡ count_below test k → length (if passes then suc k ∷ those test k else those test k) ≡ count_below test k + (if passes then 1 else 0)
    by true e = omega (arith, e)
    by false e = omega (arith, e)

added_cases : (passes : Bool) (x y : ℕ) (xs : List ℕ) → Contains (if passes then y ∷ xs else xs) x → Contains xs x ⊎ ((passes ≡ true) × (x ≡ y))
added_cases true x y xs c = first c.0 c.1 c.2
  where
    first : (i : ℕ) → i < length (y ∷ xs) → slice_index_or (y ∷ xs) i x ≡ x → Contains xs x ⊎ ((true ≡ true) × (x ≡ y))
    first zero low e = inr (refl, sym e)
    first (suc i) low e = inl (i, omega arith, e)
added_cases false x y xs c = inl c

-- each number of the list is from 1 to k, and the number less 1 passes
pub those_have : (test : ℕ → Bool) (k x : ℕ) → Contains (those test k) x → (1 ≤ x) × (x ≤ k) × (test (x - 1) ≡ true)
unfolding those
those_have test zero x c = absurd (omega (arith, c.1))
those_have test (suc k) x c = elim (added_cases (test k) x (suc k) (those test k) c) [
  | inl later ↦ let found = those_have test k x later in (found.0, omega (arith, found.1), found.2)
  | inr first ↦
      let same : x - 1 ≡ k = omega (arith, first.1) in
      (omega (arith, first.1), omega (arith, first.1), ap test same ∙ first.0)
]

-- the list contains each number that passes, plus 1
pub those_has : (test : ℕ → Bool) (k i : ℕ) → i < k → test i ≡ true → Contains (those test k) (i + 1)
unfolding those
those_has test zero i low passes = absurd (omega arith)
those_has test (suc k) i low passes = elim (cases_lt i k) [
  | inl below ↦ keeps (test k) (those_has test k i below passes)
  | inr past ↦
      let same : i ≡ k = omega arith in
      let last : test k ≡ true = ap test (sym same) ∙ passes in
      rw last (0, omega arith, omega arith)
]
  where
    keeps : (passes : Bool) → Contains (those test k) (i + 1) → Contains (if passes then suc k ∷ those test k else those test k) (i + 1)
    keeps true c = Contains-append_right (suc k ∷ []) (those test k) (i + 1) c
    keeps false c = c

-- a relation between each two numbers that pass holds between each two numbers of the list
pub those_pairs : (R : ℕ → ℕ → Type 0) (test : ℕ → Bool) (k : ℕ) → ((h g : ℕ) → 1 ≤ g → g < h → h ≤ k → test (h - 1) ≡ true → test (g - 1) ≡ true → R h g) → AllPairs R (those test k)
unfolding those
those_pairs R test zero each = λ i j d less within. absurd (omega arith)
those_pairs R test (suc k) each =
    let rest = those_pairs R test k (λ h g some less low. each h g some less (omega arith)) in
    cond_both (test k) (suc k ∷ those test k) (those test k) (AllPairs R) (λ passes. AllPairs-cons R (suc k) (those test k) (first passes) rest) (λ fails. rest)
  where
    first : test k ≡ true → All (R (suc k)) (those test k)
    first passes i d within =
        let found = those_have test k (slice_index_or (those test k) i d) (Contains-get_or (those test k) i d within) in
        let same : suc k - 1 ≡ k = omega arith in
        each (suc k) (slice_index_or (those test k) i d) found.0 (omega (arith, found.1)) (omega arith) (ap test same ∙ passes) found.2

-- ---- rows with one input flipped

pub less_power : (k n : ℕ) → k < n → 2 ^ k < 2 ^ n
less_power k n less =
    let wide : 2 ^ suc k ≤ 2 ^ n = pow_mono less in
    omega (arith, two-pow-succ k, pow_pos k)

-- a row whose digit of weight 2 ^ k is 0, with that digit set
pub raised_or : (t k : ℕ) → digit t k ≡ false → t + 2 ^ k ≡ bit_or t (2 ^ k)
raised_or t k none =
    let bit : bit_at t k ≡ 0 = no_digit (bit_at t k) (bit_at-lt t k) none in
    let gone : 0 * 2 ^ k ≡ 0 = omega arith in
    sym (or_disjoint t (2 ^ k) (and_pow t k ∙ ap (λ (x : ℕ). x * 2 ^ k) bit ∙ gone))

-- the other digits are the same
pub raised_other : (t k i : ℕ) → digit t k ≡ false → i ≢ k → digit (t + 2 ^ k) i ≡ digit t i
raised_other t k i none apart =
    let rest : max (bit_at t i) (bit_at (2 ^ k) i) ≡ bit_at t i = omega (arith, bit_at-pow_other k i apart) in
    ap (λ (x : ℕ). digit x i) (raised_or t k none) ∙ ap (λ (x : ℕ). x == 1) (bit_at_or t (2 ^ k) i ∙ rest)

-- and the number is one of the rows
pub raised_low : (n j t : ℕ) → 1 ≤ j → j ≤ n → t < 2 ^ n → input n t j ≡ false → t + 2 ^ (n - j) < 2 ^ n
raised_low n j t some low inside none = rw (raised_or t (n - j) none) (or_lt n t (2 ^ (n - j)) inside (less_power (n - j) n (omega arith)))

-- ---- inputs in use

-- where the test `uses` passes, the output uses the input
pub uses_is : (s : Specification) (h j : ℕ) → 1 ≤ j → j ≤ s.inputs → uses s h j ≡ true → IsInSupport s j h
unfolding uses is_sensitive_on
uses_is s h j some low e =
    let found = some_passes (is_sensitive_on s h j) (2 ^ s.inputs) e in
    let parts = and_parts (are_opposite (s.cell h found.0) (s.cell h (found.0 + 2 ^ (s.inputs - j)))) (not (input s.inputs found.0 j)) found.2 in
    let none : input s.inputs found.0 j ≡ false = not_true (input s.inputs found.0 j) parts.1 in
    record {
      row = found.0;
      other = found.0 + 2 ^ (s.inputs - j);
      inside = (found.1, raised_low s.inputs j found.0 some low found.1 none);
      alone = λ i from to apart. sym (raised_other found.0 (s.inputs - j) (s.inputs - i) none (λ (same : s.inputs - i ≡ s.inputs - j). apart (omega arith)));
      asked = parts.0;
    }

-- one output, and the inputs that it uses
pub used_one : (s : Specification) (h : ℕ) → 1 ≤ h → h ≤ s.outputs → AreInSupports s (those (uses_next s h) s.inputs) (h ∷ [])
unfolding uses_next
used_one s h some low = record {
  numbers = λ g c. only g c.0 c.1 c.2;
  different = those_pairs (λ (i j : ℕ). i ≡ j → ⊥) (uses_next s h) s.inputs (λ i j from less to passes other e. omega (arith, e, less));
  used = λ j c. let found = those_have (uses_next s h) s.inputs j c in (h, (0, omega arith, refl), uses_is s h j found.0 found.1 (next j found.0 found.2));
}
  where
    only : (g i : ℕ) → i < length (h ∷ []) → slice_index_or (h ∷ []) i g ≡ g → (1 ≤ g) × (g ≤ s.outputs)
    only g zero within e = (omega (arith, e, some), omega (arith, e, low))
    only g (suc i) within e = absurd (omega arith)

    next : (j : ℕ) → 1 ≤ j → uses_next s h (j - 1) ≡ true → uses s h j ≡ true
    next j from e = let same : j - 1 + 1 ≡ j = omega arith in ap (uses s h) (sym same) ∙ e

-- all live outputs, and the inputs that they use
pub used_all : (s : Specification) → AreInSupports s (those (is_in_use s) s.inputs) (those (live_next s) s.outputs)
unfolding is_in_use live_uses live_next
used_all s = record {
  numbers = λ g c. let found = those_have (live_next s) s.outputs g c in (found.0, found.1);
  different = those_pairs (λ (i j : ℕ). i ≡ j → ⊥) (is_in_use s) s.inputs (λ i j from less to passes other e. omega (arith, e, less));
  used = λ j c. by j c;
}
  where
    by : (j : ℕ) → Contains (those (is_in_use s) s.inputs) j → (h : ℕ) × Contains (those (live_next s) s.outputs) h × IsInSupport s j h
    by j c =
        let found = those_have (is_in_use s) s.inputs j c in
        let same : j - 1 + 1 ≡ j = omega (arith, found.0) in
        let output = some_passes (live_uses s (j - 1 + 1)) s.outputs found.2 in
        let parts = and_parts (uses s (output.0 + 1) (j - 1 + 1)) (is_live s (output.0 + 1)) output.2 in
        (output.0 + 1, those_has (live_next s) s.outputs output.0 output.1 parts.1, uses_is s (output.0 + 1) j found.0 found.1 (ap (uses s (output.0 + 1)) (sym same) ∙ parts.0))

-- ---- outputs that differ

pub differ_is : (s : Specification) (g h : ℕ) → differ s g h ≡ true → OutputsDiffer s g h
unfolding differ differ_on
differ_is s g h e = let found = some_passes (differ_on s g h) (2 ^ s.inputs) e in record { row = found.0; inside = found.1; asked = found.2 }

pub opposite_swapped : (a b : Cell) → are_opposite a b ≡ true → are_opposite b a ≡ true
opposite_swapped Zero Zero e = e
opposite_swapped Zero One e = refl
opposite_swapped Zero Free e = absurd cc
opposite_swapped One Zero e = refl
opposite_swapped One One e = e
opposite_swapped One Free e = absurd cc
opposite_swapped Free b e = absurd cc

differ_swapped : (s : Specification) (g h : ℕ) → OutputsDiffer s g h → OutputsDiffer s h g
differ_swapped s g h d = record { row = d.row; inside = d.inside; asked = opposite_swapped (s.cell g d.row) (s.cell h d.row) d.asked }

-- a new output differs from a live one before it
new_differs : (s : Specification) (i k : ℕ) → k < i → is_new s i ≡ true → is_new s k ≡ true → OutputsDiffer s (i + 1) (k + 1)
unfolding is_new live_compatible
new_differs s i k less new live =
    let mine = and_parts (not (some_below (live_compatible s (i + 1)) i)) (is_live s (i + 1)) new in
    let its = and_parts (not (some_below (live_compatible s (k + 1)) k)) (is_live s (k + 1)) live in
    differ_swapped s (k + 1) (i + 1) (differ_is s (k + 1) (i + 1) (elim (cases_Bool (differ s (k + 1) (i + 1))) [
      | inl apart ↦ apart
      | inr like ↦
          let both : live_compatible s (i + 1) k ≡ true = rw (like, its.1) refl in
          absurd (true_false (sym (passes_some (live_compatible s (i + 1)) i k less both) ∙ not_true (some_below (live_compatible s (i + 1)) i) mine.0))
    ]))

pub apart_new : (s : Specification) → AreLiveApart s (those (is_new s) s.outputs)
unfolding is_new
apart_new s = record {
  numbers = λ g c. let found = those_have (is_new s) s.outputs g c in (found.0, found.1);
  live = λ g c. is g c;
  apart = those_pairs (OutputsDiffer s) (is_new s) s.outputs (λ h g from less to new other. pair h g from less new other);
}
  where
    is : (g : ℕ) → Contains (those (is_new s) s.outputs) g → is_live s g ≡ true
    is g c =
        let found = those_have (is_new s) s.outputs g c in
        let same : g - 1 + 1 ≡ g = omega (arith, found.0) in
        ap (is_live s) (sym same) ∙ (and_parts (not (some_below (live_compatible s (g - 1 + 1)) (g - 1))) (is_live s (g - 1 + 1)) found.2).1

    pair : (h g : ℕ) → 1 ≤ g → g < h → is_new s (h - 1) ≡ true → is_new s (g - 1) ≡ true → OutputsDiffer s h g
    pair h g from less new other =
        let same_h : h - 1 + 1 ≡ h = omega arith in
        let same_g : g - 1 + 1 ≡ g = omega arith in
        subst (λ (x : ℕ). OutputsDiffer s x g) same_h (subst (λ (x : ℕ). OutputsDiffer s (h - 1 + 1) x) same_g (new_differs s (h - 1) (g - 1) (omega arith) new other))

-- ---- the bound

-- a bound of all numbers is a bound of the greatest
greatest_least : (f : ℕ → ℕ) (k d : ℕ) → ((i : ℕ) → i < k → f i ≤ d) → greatest f k ≤ d
unfolding greatest
greatest_least f zero d each = omega arith
greatest_least f (suc k) d each = omega (arith, each k (omega arith), greatest_least f k d (λ i low. each i (omega arith)))

single_few : (s : Specification) (basis : Basis) (r : ℕ) → HasChain s basis r → (i : ℕ) → i < s.outputs → single s i ≤ r
unfolding single
single_few s basis r chain i low = omega (
  arith,
  inputs_few s basis r (those (uses_next s (i + 1)) s.inputs)
      ((i + 1) ∷ []) (used_one s (i + 1) (omega arith) (omega arith)) chain,
  those_count (uses_next s (i + 1)) s.inputs,
)

-- A chain that agrees has at least as many steps as the bound.
pub fewest_few : (s : Specification) (basis : Basis) (r : ℕ) → HasChain s basis r → fewest s ≤ r
fewest_few s basis r chain =
    omega (
      arith,
      outputs_few s basis r (those (is_new s) s.outputs) (apart_new s) chain,
      those_count (is_new s) s.outputs,
      greatest_least (single s) s.outputs r (single_few s basis r chain),
      inputs_few s basis r (those (is_in_use s) s.inputs) (those (live_next s) s.outputs) (used_all s) chain,
      those_count (is_in_use s) s.inputs,
      those_count (live_next s) s.outputs,
    )

pub none_below : (s : Specification) (basis : Basis) (q : ℕ) → q < fewest s → HasChain s basis q → ⊥
none_below s basis q low chain = omega (arith, fewest_few s basis q chain)

-- the same for a number that equals the bound
pub none_below_is : (s : Specification) (bound : ℕ) → bound ≡ fewest s → (basis : Basis) (q : ℕ) → q < bound → HasChain s basis q → ⊥
none_below_is s bound is basis q low chain = none_below s basis q (omega (arith, is, low)) chain
