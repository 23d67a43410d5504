-- Lists of ids and of literals as bytes.
use Rattle.std.specs.Prelude.{ℕ, ◌+◌, ◌-◌, ◌*◌, ◌/◌, ◌%◌, ◌==◌, nat_le, if◌then◌else◌, min, max, ℤ, List, [], ◌∷◌, ◌++◌, map}
use Rattle.std.specs.List.{flat_map}
use Rattle.sat_theory.specs.Formula.{signed}
use Rattle.cnf_core.specs.Codes.{code_of}
use Rattle.log_core.specs.Numbers.{numbers_from, written}
use Rattle.sat_theory.specs.Limits.{most_id, most_variable}

-- the zigzag encoding of the difference between consecutive ids: up by d is 2 d, down by d is 2 d - 1
unfoldable pub step : ℕ → ℕ → ℕ
step last id = if nat_le last id then 2 * (id - last) else 2 * (last - id) - 1

-- the id that a step leads to, clamped to 32 bits
unfoldable pub stepped : ℕ → ℕ → ℕ
stepped last n = if n % 2 == 0 then min (last + n / 2) most_id else last - (n / 2 + 1)

-- ids as bytes: each as the step from the one before. Example: after 0, the ids 7, 9, 8 are 14, 4,
-- 1.
unfoldable pub ids_written : ℕ → List ℕ → List ℕ
ids_written last [] = []
ids_written last (id ∷ ids) = written (step last id) ++ ids_written id ids

-- the ids that steps lead to
unfoldable pub ids_from : ℕ → List ℕ → List ℕ
ids_from last [] = []
ids_from last (n ∷ ns) = stepped last n ∷ ids_from (stepped last n) ns

-- the ids that bytes spell
abbrev pub ids_of : List ℕ → List ℕ
ids_of bytes = ids_from 0 (numbers_from 0 bytes)

-- n clamped to the variables 1 to 2147483647
unfoldable pub variable_at : ℕ → ℕ
variable_at n = max 1 (min n most_variable)

-- the literal that a number encodes: of a variable v, 2 v is v and 2 v + 1 is -v
unfoldable pub literal_at : ℕ → ℤ
literal_at n = signed (variable_at (n / 2)) (n % 2 == 0)

-- literals as bytes. Example: 3, -64 are 6, 129, 1.
unfoldable pub literals_written : List ℤ → List ℕ
literals_written lits = flat_map (λ l. written (code_of l)) lits

-- the literals that numbers encode
unfoldable pub literals_from : List ℕ → List ℤ
literals_from ns = map literal_at ns

-- the literals that bytes spell
abbrev pub literals_of : List ℕ → List ℤ
literals_of bytes = literals_from (numbers_from 0 bytes)
