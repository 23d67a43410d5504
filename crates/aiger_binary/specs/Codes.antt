-- Numbers in the binary form of AIGER: 7 bits a byte, the least first; each byte but the last has 128 added.
use Rattle.std.specs.Prelude.{ℕ, zero, suc, ◌+◌, ◌*◌, ◌%◌, nat_lt, nat_le, ◌&&◌, if◌then◌else◌, List, [], ◌∷◌, Option, Some, None}
use Rattle.aiger_binary.specs.Options.{◌>>=◌}

-- the most bytes of a number: 28 bits, which is more than a literal has
abbrev pub most_bytes : ℕ
most_bytes = 4

-- a number, and the bytes after it
pub record Coded : Type 0 where
  pub number : ℕ
  pub rest : List ℕ

abbrev pub coded : ℕ → List ℕ → Coded
coded number rest = record { number = number; rest = rest }

-- The number that the bytes begin with, if it has at most `room` of them; its last ones may be 0.
-- Example: 172 and 2 are 300.
unfoldable pub number_in : ℕ → List ℕ → Option Coded
number_in zero bytes = None
number_in (suc room) [] = None
number_in (suc room) (b ∷ bytes) = if nat_lt b 128 then Some (coded b bytes)
    else (number_in room bytes >>= λ c. Some (coded (b % 128 + 128 * c.number) c.rest))

-- the number that the bytes begin with, if it is between two bounds
abbrev pub number_between : ℕ → ℕ → List ℕ → Option Coded
number_between least most bytes = number_in most_bytes bytes >>= λ c.
    (if nat_le least c.number && nat_le c.number most then Some c else None)
