-- How many numbers below a bound pass a test.
use Rattle.std.proofs.Common.{◌≡◌, ℕ, zero, suc, ◌+◌, ◌-◌, ◌≤◌, ◌<◌, Bool, true, false, ◌||◌, refl, ap, ◌∙◌, arith, ⊎_elim}
use Rattle.std.proofs.lemmas.Bool.{cases_lt, cases_Bool, both_ways}
use Rattle.op_basis.specs.Closed.{number}

-- Example: tally (λ i. i == 3) 5 is 1.
unfoldable pub tally : (ℕ → Bool) → ℕ → ℕ
tally test zero = 0
tally test (suc n) = tally test n + number (test n)

pub number_true : (b : Bool) → b ≡ true → number b ≡ 1
number_true b e = ap number e

pub number_false : (b : Bool) → b ≡ false → number b ≡ 0
number_false b e = ap number e

pub number_low : (b : Bool) → number b ≤ 1
number_low true = omega arith
number_low false = omega arith

pub number_or : (a b : Bool) → number (a || b) ≤ number a + number b
number_or true true = omega arith
number_or true false = omega arith
number_or false b = omega arith

-- two tests that never pass together, and a third one that passes where one of them does
pub tally_apart : (f g h : ℕ → Bool) (n : ℕ) → ((i : ℕ) → i < n → number (f i) + number (g i) ≤ number (h i)) → tally f n + tally g n ≤ tally h n
unfolding tally
tally_apart f g h zero each = omega arith
tally_apart f g h (suc n) each = omega (arith, tally_apart f g h n (λ i low. each i (omega arith)), each n (omega arith))

-- a test that passes only where one of two does
pub tally_both : (f g h : ℕ → Bool) (n : ℕ) → ((i : ℕ) → i < n → number (h i) ≤ number (f i) + number (g i)) → tally h n ≤ tally f n + tally g n
unfolding tally
tally_both f g h zero each = omega arith
tally_both f g h (suc n) each = omega (arith, tally_both f g h n (λ i low. each i (omega arith)), each n (omega arith))

pub tally_none : (f : ℕ → Bool) (n : ℕ) → ((i : ℕ) → i < n → f i ≡ false) → tally f n ≡ 0
unfolding tally
tally_none f zero each = refl
tally_none f (suc n) each = omega (arith, tally_none f n (λ i low. each i (omega arith)), number_false (f n) (each n (omega arith)))

pub tally_all : (f : ℕ → Bool) (n : ℕ) → ((i : ℕ) → i < n → f i ≡ true) → tally f n ≡ n
unfolding tally
tally_all f zero each = refl
tally_all f (suc n) each = omega (arith, tally_all f n (λ i low. each i (omega arith)), number_true (f n) (each n (omega arith)))

pub tally_at_most : (f : ℕ → Bool) (n : ℕ) → tally f n ≤ n
unfolding tally
tally_at_most f zero = omega arith
tally_at_most f (suc n) = omega (arith, tally_at_most f n, number_low (f n))

pub tally_more : (f : ℕ → Bool) (n more : ℕ) → tally f n ≤ tally f (n + more)
unfolding tally
tally_more f n zero = let e : n + 0 ≡ n = omega arith in omega (arith, ap (tally f) e)
tally_more f n (suc more) = let e : tally f (n + suc more) ≡ tally f (suc (n + more)) = ap (tally f) (let k : n + suc more ≡ suc (n + more) = omega arith in k) in omega (arith, tally_more f n more, e)

-- a test that passes for at most one number
pub tally_one : (f : ℕ → Bool) (n : ℕ) → ((i k : ℕ) → f i ≡ true → f k ≡ true → i ≡ k) → tally f n ≤ 1
unfolding tally
tally_one f zero single = omega arith
tally_one f (suc n) single = ⊎_elim
    (λ (here : f n ≡ true).
    let none : tally f n ≡ 0 = tally_none f n (λ i low. ⊎_elim (λ (there : f i ≡ true). absurd (omega (arith, single i n there here))) (λ (fails : f i ≡ false). fails) (cases_Bool (f i))) in
    omega (arith, none, number_low (f n)))
    (λ (fails : f n ≡ false). omega (arith, tally_one f n single, number_false (f n) fails))
    (cases_Bool (f n))

pub tally_some : (f : ℕ → Bool) (n i : ℕ) → i < n → f i ≡ true → 1 ≤ tally f n
unfolding tally
tally_some f zero i low passes = absurd (omega arith)
tally_some f (suc n) i low passes = ⊎_elim
    (λ (below : i < n). omega (arith, tally_some f n i below passes))
    (λ (past : n ≤ i). omega (arith, number_true (f n) (ap f (let e : n ≡ i = omega arith in e) ∙ passes)))
    (cases_lt i n)

-- a downward closed test: below n, where it passes for a number, it passes for all smaller ones
abbrev pub IsDownwardClosed : (ℕ → Bool) → ℕ → Type 0
IsDownwardClosed f n = (i k : ℕ) → i ≤ k → k < n → f k ≡ true → f i ≡ true

pub prefix_passes : (f : ℕ → Bool) (n i : ℕ) → IsDownwardClosed f n → i < n → f i ≡ true → i < tally f n
prefix_passes f n i prefix low passes =
    let all : tally f (i + 1) ≡ i + 1 = tally_all f (i + 1) (λ k k_low. prefix k i (omega arith) low passes) in
    let e : (i + 1) + (n - (i + 1)) ≡ n = omega arith in
    omega (arith, all, tally_more f (i + 1) (n - (i + 1)), ap (tally f) e)

fails_from : (f : ℕ → Bool) (i more : ℕ) → ((k : ℕ) → i ≤ k → k < i + more → f k ≡ false) → tally f (i + more) ≡ tally f i
unfolding tally
fails_from f i zero fails = ap (tally f) (let e : i + 0 ≡ i = omega arith in e)
fails_from f i (suc more) fails =
    let e : tally f (i + suc more) ≡ tally f (suc (i + more)) = ap (tally f) (let k : i + suc more ≡ suc (i + more) = omega arith in k) in
    omega (arith, e, fails_from f i more (λ k from low. fails k from (omega arith)), number_false (f (i + more)) (fails (i + more) (omega arith) (omega arith)))

pub prefix_fails : (f : ℕ → Bool) (n i : ℕ) → IsDownwardClosed f n → i < n → f i ≡ false → tally f n ≤ i
prefix_fails f n i prefix low fails =
    let e : i + (n - i) ≡ n = omega arith in
    let same : tally f (i + (n - i)) ≡ tally f i = fails_from f i (n - i) (λ k from k_low. ⊎_elim
    (λ (passes : f k ≡ true). absurd (both_ways (f i) fails (prefix i k from (omega arith) passes)))
    (λ (no_pass : f k ≡ false). no_pass)
    (cases_Bool (f k))) in
    omega (arith, same, ap (tally f) e, tally_at_most f i)
