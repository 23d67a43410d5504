-- Tables with an entry for each literal.
use Rattle.std.specs.Prelude.{ℕ, suc, ◌+◌, ◌-◌, ◌*◌, ◌/◌, ◌%◌, ◌==◌, if◌then◌else◌, ℤ, pos, negsuc}

-- the index of a literal's entry: 2 v for v, 2 v + 1 for -v
abbrev pub code_of : ℤ → ℕ
code_of (pos n) = 2 * n
code_of (negsuc n) = 2 * suc n + 1

-- the literal whose entry has the index n, from 2 on
abbrev pub literal_of : ℕ → ℤ
literal_of n = if n % 2 == 0 then pos (n / 2) else negsuc (n / 2 - 1)
