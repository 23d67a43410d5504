-- Numbers of at most four bytes fit in 32 bits.
use Rattle.std.proofs.Common.{◌≡◌, ℕ, zero, suc, ◌+◌, ◌-◌, ◌*◌, ◌%◌, ◌^◌, ◌≤◌, ◌<◌, refl, arith}
use Rattle.std.proofs.lemmas.Grind.{common_steps}

-- one byte more
pub next_power : (room : ℕ) → (room ≡ 0 → ⊥) → 128 ^ room ≡ 128 * 128 ^ (room - 1)
next_power zero some = absurd (some refl)
next_power (suc room) some = let same : suc room - 1 ≡ room = omega arith in rw same (omega arith)

some_power : (room : ℕ) → 1 ≤ 128 ^ room
some_power zero = omega arith
some_power (suc room) = omega (arith, some_power room)

-- a number of three bytes
three_bytes : (room : ℕ) → room ≤ 3 → 128 ^ room ≤ 2097152
three_bytes zero low = omega arith
three_bytes (suc zero) low = omega arith
three_bytes (suc (suc zero)) low = omega arith
three_bytes (suc (suc (suc zero))) low = omega arith
three_bytes (suc (suc (suc (suc room)))) low = absurd (omega arith)

-- the last byte
pub byte_low : (room b : ℕ) → (room ≡ 0 → ⊥) → b < 128 → b < 128 ^ room
byte_low room b some low = omega (arith, low, next_power room some, some_power (room - 1))

-- what the bytes after the first are worth
pub more_low : (room n : ℕ) → room ≤ 4 → n < 128 ^ (room - 1) → 128 * n < 2 ^ 31
more_low room n few low = omega (arith, low, three_bytes (room - 1) (omega (arith, few)))

-- a byte before others
pub number_low : (room b n : ℕ) → (room ≡ 0 → ⊥) → b < 128 → n < 128 ^ (room - 1) → b + 128 * n < 128 ^ room
number_low room b n some byte low = omega (arith, byte, low, next_power room some)

pub digit_low : (room b n : ℕ) → (room ≡ 0 → ⊥) → n < 128 ^ (room - 1) → b % 128 + 128 * n < 128 ^ room
digit_low room b n some low = let digit : b % 128 < 128 = omega arith in number_low room (b % 128) n some digit low

pub ruleset powers = (common_steps, byte_low, more_low, number_low, digit_low)
