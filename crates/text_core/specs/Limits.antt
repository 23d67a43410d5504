-- The limit of numbers in texts.
use Rattle.std.specs.Prelude.{ℕ}

-- the greatest number of a text, of nine digits, so that sums of a few of them fit in 32 bits
abbrev pub most_number : ℕ
most_number = 999999999
