-- Numbers as bytes: their digits in base 128, the most significant first. All but the last have the continuation
-- bit (128), so that a reader sees where a number ends.
-- Example: 300 is 2 * 128 + 44, and its bytes are 130, 44.
use Rattle.std.specs.Prelude.{ℕ, ◌+◌, ◌-◌, ◌*◌, ◌/◌, ◌%◌, ◌==◌, nat_lt, if◌then◌else◌, min, List, [], ◌∷◌, ◌++◌}

-- a number with one more digit, read from a byte with the continuation bit; before its last digit the number is
-- clamped to 2 ^ 34
unfoldable pub grown : ℕ → ℕ → ℕ
grown n b = min (n * 128 + (b - 128)) 17179869184

-- the numbers that bytes spell, after the digits n have been read; any bytes have a meaning, and digits without a
-- last one are ignored
unfoldable pub numbers_from : ℕ → List ℕ → List ℕ
numbers_from n [] = []
numbers_from n (b ∷ bs) = if nat_lt b 128 then (n * 128 + b) ∷ numbers_from 0 bs else numbers_from (grown n b) bs

-- the last digit of n, with the continuation bit; the empty list for 0
unfoldable pub leading : ℕ → List ℕ
leading n = if n == 0 then [] else (n % 128 + 128) ∷ []

-- the last three digits of n, all with the continuation bit
unfoldable pub far : ℕ → List ℕ
far n = leading (n / 16384) ++ leading (n / 128) ++ leading n

-- a number of at most five digits
unfoldable pub written : ℕ → List ℕ
written n = far (n / 16384) ++ leading (n / 128) ++ (n % 128) ∷ []
