-- The invariants of loops that look for a number that passes a test, or count those.
use Rattle.std.proofs.Common.{◌≡◌, ℕ, zero, suc, ◌+◌, ◌<◌, ◌≤◌, ◌⊎◌, true, false, Bool, cond, refl, sym, add-one, arith, inl, inr, ◌∙◌}
use Rattle.std.specs.Prelude.{if◌then◌else◌}
use Rattle.std.proofs.lemmas.Grind.{common_steps}
use Rattle.std.proofs.lemmas.Bool.{cases_Bool}
use Rattle.bound_core.specs.Counts.{some_below, count_below}
use Rattle.bound_core.specs.CountLaws.{passes_some, some_passes, true_false}

-- no number below 0 passes
pub some_none : (test : ℕ → Bool) → some_below test 0 ≡ false
unfolding some_below
some_none test = refl

-- one more number that doesn't pass
pub some_more : (test : ℕ → Bool) (k : ℕ) → some_below test k ≡ false → test k ≡ false → some_below test (k + 1) ≡ false
unfolding some_below
some_more test k before here = rw (add-one, before, here) refl

-- a number that passes
pub some_at : (test : ℕ → Bool) (k bound : ℕ) → test k ≡ true → k < bound → some_below test bound ≡ true
some_at test k bound here low = passes_some test bound k low here

pub ruleset passing = (common_steps, some_none, some_more, some_at)

-- ---- counts

pub count_none : (test : ℕ → Bool) → count_below test 0 ≡ 0
unfolding count_below
count_none test = refl

pub count_more : (test : ℕ → Bool) (k : ℕ) → count_below test (k + 1) ≡ count_below test k + cond (test k) 1 0
unfolding count_below
count_more test k = rw add-one refl

pub ruleset counting = (common_steps, count_none, count_more)

-- each number that passes `a` passes `b` or `c`
pub count_split : (a b c : ℕ → Bool) (k : ℕ) → ((i : ℕ) → i < k → a i ≡ true → (b i ≡ true) ⊎ (c i ≡ true)) → count_below a k ≤ count_below b k + count_below c k
unfolding count_below
count_split a b c zero each = omega arith
count_split a b c (suc k) each = omega (arith, count_split a b c k (λ i low. each i (omega (arith, low))), bits (a k) (b k) (c k) (each k (omega arith)))
  where
    bits : (x y z : Bool) → (x ≡ true → (y ≡ true) ⊎ (z ≡ true)) → (if x then 1 else 0) ≤ (if y then 1 else 0) + (if z then 1 else 0)
    bits false y z e = omega arith
    bits true true z e = omega arith
    bits true false true e = omega arith
    bits true false false e = elim (e refl) [
      | inl p ↦ absurd cc
      | inr q ↦ absurd cc
    ]

pub count_zero : (test : ℕ → Bool) (k : ℕ) → ((i : ℕ) → i < k → test i ≡ false) → count_below test k ≡ 0
unfolding count_below
count_zero test zero each = refl
count_zero test (suc k) each = rw (count_zero test k (λ i low. each i (omega (arith, low))), each k (omega arith)) refl

-- where no two numbers pass, at most one does
pub count_one : (test : ℕ → Bool) (k : ℕ) → ((i j : ℕ) → i < j → j < k → test i ≡ true → test j ≡ true → ⊥) → count_below test k ≤ 1
unfolding count_below
count_one test zero apart = omega arith
count_one test (suc k) apart = elim (cases_Bool (test k)) [
  | inl last ↦
      let none : count_below test k ≡ 0 = count_zero test k (λ i low. not_true (test i) (λ e. apart i k low (omega arith) e last)) in
      rw (none, last) (omega arith)
  | inr other ↦ rw other (omega (arith, count_one test k (λ i j less low. apart i j less (omega (arith, low)))))
]
  where
    not_true : (b : Bool) → (b ≡ true → ⊥) → b ≡ false
    not_true true e = absurd (e refl)
    not_true false e = refl

-- ---- numbers that don't pass

pub none_passes : (test : ℕ → Bool) (k t : ℕ) → some_below test k ≡ false → t < k → test t ≡ false
none_passes test k t none low = elim (cases_Bool (test t)) [
  | inl passes ↦ absurd (true_false (sym (passes_some test k t low passes) ∙ none))
  | inr fails ↦ fails
]

pub all_fail : (test : ℕ → Bool) (k : ℕ) → ((t : ℕ) → t < k → test t ≡ false) → some_below test k ≡ false
all_fail test k each = elim (cases_Bool (some_below test k)) [
  | inl some ↦ let found = some_passes test k some in absurd (true_false (sym found.2 ∙ each found.0 found.1))
  | inr none ↦ none
]
