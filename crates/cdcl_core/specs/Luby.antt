-- Luby's sequence.
use Rattle.std.specs.Prelude.{◌≡◌, ℕ, ◌+◌, ◌-◌, ◌*◌, ◌^◌, ◌<◌, ◌≤◌}

-- The member at index 2 ^ (k + 1) - 1 is 2 ^ k, and those from index 2 ^ k up to it repeat the sequence from
-- its beginning.
-- Example: it begins 1, 1, 2, 1, 1, 2, 4, 1, 1, 2.
pub data IsLuby : ℕ → ℕ → Type 0 where
  Last : (k : ℕ) → IsLuby (2 ^ (k + 1) - 1) (2 ^ k)
  Again : (k i member : ℕ) → 2 ^ k ≤ i → i + 1 < 2 ^ (k + 1) → IsLuby (i + 1 - 2 ^ k) member → IsLuby i member

-- p is the greatest power of 2 up to n
pub record IsPowerUpTo (n p : ℕ) : Type 0 where
  pub exponent : ℕ
  pub is : p ≡ 2 ^ exponent
  pub low : p ≤ n
  pub high : n < 2 * p
