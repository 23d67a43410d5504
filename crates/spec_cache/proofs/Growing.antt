-- Rows and words that grow bit by bit.
use Rattle.std.proofs.Common.{◌≡◌, ℕ, ◌+◌, ◌*◌, ◌^◌, ◌<◌, ◌≤◌, Bool, cond, refl, arith, add-one}
use Rattle.std.proofs.lemmas.Grind.{common_steps}
use Rattle.std.proofs.Math.Pow.{pow_mono}
use Rattle.chain_theory.specs.Rows.{row_of, row_low}
use Rattle.spec_cache.specs.OrderLaws.{order_at}

-- no bit yet
pub row_none : (bits : ℕ → Bool) → row_of 0 bits ≡ 0
unfolding row_of
row_none bits = refl

-- one more bit
pub row_more : (bits : ℕ → Bool) (k : ℕ) → row_of (k + 1) bits ≡ 2 * row_of k bits + cond (bits (k + 1)) 1 0
unfolding row_of
row_more bits k = rw add-one refl

-- there is room for one more bit
pub row_small : (bits : ℕ → Bool) (k : ℕ) → k ≤ 6 → row_of k bits < 64
row_small bits k few = let wide : 2 ^ k ≤ 2 ^ 6 = pow_mono few in omega (arith, row_low bits k)

pub word_small : (bits : ℕ → Bool) (k : ℕ) → k < 64 → row_of k bits < 9223372036854775808
word_small bits k few = let wide : 2 ^ k ≤ 2 ^ 63 = pow_mono (let low : k ≤ 63 = omega (arith, few) in low) in omega (arith, row_low bits k)

-- at most 64 rows
pub rows_few : (n : ℕ) → n ≤ 6 → 2 ^ n ≤ 64
rows_few n few = pow_mono few

pub ruleset growing = (common_steps, row_none, row_more, row_low, row_small, word_small, rows_few, order_at)
