-- Numbers: decimal digits with no sign and no leading 0.
use Rattle.std.specs.Prelude.{ℕ, ◌+◌, ◌-◌, ◌*◌, List, [], ◌∷◌, Option, Some, None, ◌==◌, nat_lt, if◌then◌else◌}
use Rattle.std.specs.Char.{is_ascii_digit}

-- the number whose first digits have the value n and whose other digits are given, if it is at most limit
unfoldable pub number_from : ℕ → ℕ → List ℕ → Option ℕ
number_from limit n [] = Some n
number_from limit n (b ∷ bs) = if is_ascii_digit b
    then (if nat_lt limit (n * 10 + (b - 48)) then None else number_from limit (n * 10 + (b - 48)) bs) else None

-- the number that a text spells, if it spells one that is at most limit
abbrev pub number_up_to : ℕ → List ℕ → Option ℕ
number_up_to limit [] = None
number_up_to limit (b ∷ []) = number_from limit 0 (b ∷ [])
number_up_to limit (b ∷ c ∷ bs) = if b == 48 then None else number_from limit 0 (b ∷ c ∷ bs)
