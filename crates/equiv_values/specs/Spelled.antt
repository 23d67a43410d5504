-- Bits that are spelled as characters.
use Rattle.std.specs.Prelude.{◌==◌, ℕ, ◌+◌, ◌-◌, Bool, List, length, map, take, drop}

abbrev pub is_one : ℕ → Bool
is_one b = b == 49

-- The `count` bits at the end of a text, before its last byte. Example: of `at 10` and LF the two bits 1 and 0.
abbrev pub spelled_bits : List ℕ → ℕ → List Bool
spelled_bits text count = map is_one (take count (drop (length text - (count + 1)) text))
