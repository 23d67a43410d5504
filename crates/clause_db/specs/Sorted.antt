-- Sorted clauses: two lists of the same literals, each equally often, are equal when sorted.
use Rattle.std.specs.Prelude.{if◌then◌else◌, nat_lt, ℤ, List, [], ◌∷◌}
use Rattle.cdcl_theory.specs.Codes.{code_of}

-- insertion of a literal before the first one of a greater or equal code
unfoldable pub inserted : ℤ → List ℤ → List ℤ
inserted l [] = l ∷ []
inserted l (m ∷ ms) = if nat_lt (code_of m) (code_of l) then m ∷ inserted l ms else l ∷ m ∷ ms

-- The literals in the order of their codes.
-- Example: of 3, -2, 1 they are 1, -2, 3.
unfoldable pub sorted : List ℤ → List ℤ
sorted [] = []
sorted (l ∷ ls) = inserted l (sorted ls)
