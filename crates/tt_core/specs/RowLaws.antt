-- A bound on the number of rows.
use Rattle.std.proofs.Common.{ℕ, ◌^◌, ◌≤◌, arith}
use Rattle.std.proofs.Math.Pow.{pow_mono}
use Rattle.chain_theory.specs.Limits.{most_inputs}

-- with at most six inputs there are at most 64 rows
pub row_below : (n : ℕ) → n ≤ most_inputs → 2 ^ n ≤ 64
row_below n few = let wide : 2 ^ n ≤ 2 ^ most_inputs = pow_mono few in omega arith
