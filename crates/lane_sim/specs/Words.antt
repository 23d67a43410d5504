-- Words of 64 assignments, and the patterns (value combinations) of signals that occur.
use Rattle.std.specs.Prelude.{◌≡◌, ℕ, ◌+◌, ◌*◌, ◌/◌, ◌<◌, ◌^◌, Bool, true, if◌then◌else◌, List, [], ◌∷◌, length, slice_get, slice_index_or, Some}
use Rattle.chain_theory.specs.Operator.{digit}
use Rattle.net_theory.specs.declared.data.Sig.{Sig}
use Rattle.net_theory.specs.Net.{sig_value}
use Rattle.lane_sim.specs.Cone.{Cone, nodes, value_in}

-- The values of signals under `rows` assignments, in words of 64, one signal after the other.
pub record Words : Type 0 where
  pub lanes : List ℕ
  pub rows : ℕ

-- the number of words of one signal
abbrev pub width_of : ℕ → ℕ
width_of rows = (rows + 63) / 64

-- The words hold the values of a cone's signals: bit b of word j of a signal is its value under the assignment
-- 64 * j + b. Bits past the last assignment are unspecified.
-- Example: the leaves 4 and 9 with XOR at 12 have rows = 4, and the words end in 1100, 1010 and 0110.
pub record AreWords (c : Cone) (w : Words) : Type 0 where
  pub rows : w.rows ≡ 2 ^ length c.leaves
  pub size : length w.lanes ≡ length (nodes c) * width_of w.rows
  pub values : (k p j b : ℕ) → slice_get (nodes c) k ≡ Some p → b < 64 → 64 * j + b < w.rows → digit (slice_index_or w.lanes (k * width_of w.rows + j) 0) b ≡ value_in c (64 * j + b) p

-- the number with the bits of a list, the first being the most significant
-- Example: the bits 1, 1, 0 give 6.
unfoldable pub pattern : {A : Type 0} → (A → Bool) → List A → ℕ
pattern bit [] = 0
pattern bit (x ∷ xs) = (if bit x then 2 ^ length xs else 0) + pattern bit xs

-- the pattern of signals under an assignment
abbrev pub pattern_under : Cone → List Sig → ℕ → ℕ
pattern_under c signals row = pattern (sig_value (value_in c row)) signals

-- Bit t of the mask is 1 exactly if the signals have the pattern t under some assignment.
-- Example: the leaf 4 and the AND of the leaves 4 and 9 have the patterns 0, 2 and 3, and the mask is 1101 in
-- binary.
pub record ArePatterns (c : Cone) (signals : List Sig) (mask : ℕ) : Type 0 where
  pub only : (t : ℕ) → digit mask t ≡ true → (row : ℕ) × (row < 2 ^ length c.leaves) × (pattern_under c signals row ≡ t)
  pub all : (row : ℕ) → row < 2 ^ length c.leaves → digit mask (pattern_under c signals row) ≡ true

-- The same under chosen assignments, those that pass the test `when`.
-- Example: under the assignments where the leaf 9 is 1, the leaf 4 and the AND of the leaves 4 and 9 have the
-- patterns 0 and 3.
pub record ArePatternsOf (c : Cone) (signals : List Sig) (when : ℕ → Bool) (mask : ℕ) : Type 0 where
  pub only : (t : ℕ) → digit mask t ≡ true → (row : ℕ) × (row < 2 ^ length c.leaves) × (when row ≡ true) × (pattern_under c signals row ≡ t)
  pub all : (row : ℕ) → row < 2 ^ length c.leaves → when row ≡ true → digit mask (pattern_under c signals row) ≡ true
