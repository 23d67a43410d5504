-- The co-lexicographic order of pairs of operands.
use Rattle.std.specs.Prelude.{◌≡◌, ℕ, ◌<◌, ◌==◌, ◌⊎◌, min, max, if◌then◌else◌}
use Rattle.chain_theory.specs.Chain.{Step}

-- the larger operand
abbrev pub larger : Step → ℕ
larger s = max s.j s.k

-- the smaller operand, and 0 where the operands are equal
abbrev pub smaller : Step → ℕ
smaller s = if s.j == s.k then 0 else min s.j s.k

-- The pair of operands of one step comes before that of another: pairs are ordered by the larger
-- operand, then equal operands before others, then by the smaller operand. The order of the two
-- operands of a step doesn't matter.
-- Example: (1,1), (2,2), (1,2), (3,3), (3,1), (2,3) is in this order.
abbrev pub ComesBefore : Step → Step → Type 0
ComesBefore a b = (larger a < larger b) ⊎ ((larger a ≡ larger b) × (smaller a < smaller b))
