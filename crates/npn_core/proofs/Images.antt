-- Rows that grow by the bit of an input.
use Rattle.std.proofs.Common.{◌≡◌, ℕ, ◌+◌, ◌*◌, ◌^◌, ◌<◌, ◌≤◌, Bool, cond, refl, arith, add-one}
use Rattle.std.proofs.lemmas.Grind.{common_steps}
use Rattle.std.proofs.Math.Pow.{pow_mono}
use Rattle.chain_theory.specs.Rows.{row_of, row_low}

-- no input yet
pub row_none : (bits : ℕ → Bool) → row_of 0 bits ≡ 0
unfolding row_of
row_none bits = refl

-- the bit of one more input
pub row_more : (bits : ℕ → Bool) (k : ℕ) → row_of (k + 1) bits ≡ 2 * row_of k bits + cond (bits (k + 1)) 1 0
unfolding row_of
row_more bits k = rw add-one refl

-- with up to six inputs it stays below 64
pub row_small : (bits : ℕ → Bool) (k : ℕ) → k ≤ 6 → row_of k bits < 64
row_small bits k few = let wide : 2 ^ k ≤ 2 ^ 6 = pow_mono few in omega (arith, row_low bits k)

pub ruleset growing = (common_steps, row_none, row_more, row_low, row_small)
