-- The cells of a table as characters, and as the binary digits of two words.
use Rattle.std.specs.Prelude.{ℕ, ◌+◌, ◌*◌, Bool, ◌||◌, List, [], ◌∷◌, ◌==◌, if◌then◌else◌}

-- `0`, `1` or `-`
abbrev pub is_cell : ℕ → Bool
is_cell c = (c == 48 || c == 49) || c == 45

-- `1` has the value 1
abbrev pub on_bit : ℕ → ℕ
on_bit c = if c == 49 then 1 else 0

-- all but `-` specify the row
abbrev pub care_bit : ℕ → ℕ
care_bit c = if c == 45 then 0 else 1

-- the number whose binary digits are the characters' bits, the first one the least significant
unfoldable pub word_of : (ℕ → ℕ) → List ℕ → ℕ
word_of bit [] = 0
word_of bit (c ∷ cs) = bit c + 2 * word_of bit cs
