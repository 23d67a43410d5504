-- The bits of the sources as a word of a command line: as `equiv` writes those of a counterexample.
use Rattle.std.specs.Prelude.{◌==◌, ◌&&◌, ◌||◌, ℕ, Bool, true, List, [], ◌∷◌, map, if◌then◌else◌, Option, Some, None, codes}
use Rattle.command_line.specs.Options.{is_word}
use Rattle.equiv_values.specs.Spelled.{is_one}

-- the characters `0` and `1`
abbrev pub is_bit : ℕ → Bool
is_bit b = (b == 48) || (b == 49)

unfoldable pub are_bits : List ℕ → Bool
are_bits [] = true
are_bits (b ∷ bs) = is_bit b && are_bits bs

-- The bits that a word spells. Examples: `10` has the bits 1 and 0, and `-` none; `x` and the empty word spell none.
abbrev pub bits_in : List ℕ → Option (List Bool)
bits_in word =
    if is_word word (codes "-") then Some []
    else (if is_word word [] then None else (if are_bits word then Some (map is_one word) else None))
