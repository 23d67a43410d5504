-- The bits of words: of leaves, and of a number that isn't 0.
use Rattle.std.proofs.Common.{◌≡◌, ◌∙◌, ℕ, zero, suc, ◌+◌, ◌-◌, ◌*◌, ◌/◌, ◌%◌, ◌^◌, ◌≤◌, ◌<◌, ◌≢◌, true, ap, sym, arith, pow-suc, ⊎_elim}
use Rattle.std.specs.Prelude.{◌==◌}
use Rattle.std.specs.Int.{bit_at}
use Rattle.std.proofs.lemmas.Bool.{cases_lt}
use Rattle.std.proofs.lemmas.Nat.Bits.{bit_at_lowest, bit_at-suc, bit_at_cat_high}
use Rattle.std.proofs.lemmas.Grind.{common_steps}
use Rattle.chain_theory.specs.Operator.{digit}
use Rattle.op_basis.specs.WordOperator.{spread, input_word}
use Rattle.op_basis.specs.WordOperatorLaws.{digit_spread, input_digit}
pub use Rattle.op_basis.specs.WordOperatorLaws.{digit_and, digit_xor}

-- ---- leaves

-- the last six bits of 64 * j + b are those of b, and the bits before are those of j
low_digits : (k j b : ℕ) → k < 6 → bit_at (64 * j + b) k ≡ bit_at b k
low_digits zero j b low = omega arith
low_digits (suc zero) j b low = omega arith
low_digits (suc (suc zero)) j b low = omega arith
low_digits (suc (suc (suc zero))) j b low = omega arith
low_digits (suc (suc (suc (suc zero)))) j b low = omega arith
low_digits (suc (suc (suc (suc (suc zero))))) j b low = omega arith
low_digits (suc (suc (suc (suc (suc (suc k)))))) j b low = absurd (omega (arith, low))

pub high_digit : (k j b : ℕ) → b < 64 → 6 ≤ k → digit (64 * j + b) k ≡ digit j (k - 6)
high_digit k j b low high =
    let whole : 64 * j + b ≡ j * 2 ^ 6 + b = omega arith in
    ap (λ (x : ℕ). digit x k) whole ∙ ap (λ (x : ℕ). x == 1) (bit_at_cat_high j 6 b k low high)

-- a word of a leaf that varies within words
pub leaf_low : (k j b : ℕ) → b < 64 → k < 6 → digit (input_word k) b ≡ digit (64 * j + b) k
leaf_low k j b within low = input_digit k b low within ∙ sym (ap (λ (x : ℕ). x == 1) (low_digits k j b low))

-- a word of a leaf that is constant in each word
pub leaf_high : (k j b : ℕ) → b < 64 → 6 ≤ k → digit (spread (digit j (k - 6))) b ≡ digit (64 * j + b) k
leaf_high k j b low high = digit_spread (digit j (k - 6)) b low ∙ sym (high_digit k j b low high)

pub ruleset leaves = (common_steps, leaf_low, leaf_high)

-- ---- a number that isn't 0 has a bit

pub some_bit : (w n : ℕ) → n < 2 ^ w → n ≢ 0 → (b : ℕ) × (b < w) × (digit n b ≡ true)
some_bit zero n low some = absurd (some (omega (arith, low)))
some_bit (suc w) n low some =
    ⊎_elim
    (λ (even : n % 2 < 1).
    let r : (b : ℕ) × (b < w) × (digit (n / 2) b ≡ true) = some_bit w (n / 2) (omega (arith, low, pow-suc 2 w)) (λ none. some (omega (arith, none, even))) in
    (suc r.0, omega (arith, r.1), ap (λ (x : ℕ). x == 1) (bit_at-suc n r.0) ∙ r.2))
    (λ (odd : 1 ≤ n % 2).
    let one : n % 2 ≡ 1 = omega (arith, odd) in
    (0, omega arith, ap (λ (x : ℕ). x == 1) (bit_at_lowest n ∙ one)))
    (cases_lt (n % 2) 1)
