-- Bounds of powers and products, within the program's bounds.
use Rattle.std.proofs.Common.{ℕ, ◌*◌, ◌^◌, ◌≤◌, arith, pow_mono}
use Rattle.std.proofs.Math.Nat.{mul-le-mul_left, mul-le-mul_right}
use Rattle.std.proofs.lemmas.Grind.{common_steps}

pub rows_few : (n : ℕ) → n ≤ 6 → 2 ^ n ≤ 64
rows_few n low = let most : 2 ^ n ≤ 2 ^ 6 = pow_mono low in omega (arith, most)

pub ruleset row_count = (common_steps, rows_few)

pub product : (a b m k : ℕ) → a ≤ m → b ≤ k → a * b ≤ m * k
product a b m k ha hb = let one : a * b ≤ m * b = mul-le-mul_right b ha in let two : m * b ≤ m * k = mul-le-mul_left m hb in omega (arith, one, two)

pub steps_rows : (a b : ℕ) → a ≤ 16 → b ≤ 64 → a * b ≤ 1024
steps_rows a b ha hb = omega (arith, product a b 16 64 ha hb)

pub outputs_steps : (a b : ℕ) → a ≤ 8 → b ≤ 16 → a * b ≤ 128
outputs_steps a b ha hb = omega (arith, product a b 8 16 ha hb)

pub ruleset products = (common_steps, steps_rows, outputs_steps, rows_few)
