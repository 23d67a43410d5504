-- Documents over a basis: each table is a gate of the basis, or a NOT that an operator of the basis makes, or no gate.
use Rattle.std.specs.Prelude.{◌≡◌, ℕ, ◌==◌, ◌&&◌, ◌||◌, not, Bool, true, false, List, [], ◌∷◌, All}
use Rattle.chain_theory.specs.Operator.{Basis}
use Rattle.op_basis.specs.Closed.{every, implies, negates_both, negates_one}
use Rattle.net_theory.specs.Cover.{Cover}
use Rattle.net_theory.specs.Document.{Name, Table, Document}
use Rattle.net_theory.specs.Cost.{merged_table}
use Rattle.net_theory.specs.Expansion.{unary_word, binary_word}

-- The operator makes NOT of a signal: with the signal twice, or with the signal and a constant as its operands.
-- Example: NAND, and XOR with the constant 1, but neither AND nor OR.
abbrev pub makes_not : ℕ → Bool
makes_not op = negates_both op || negates_one op

unfoldable pub has_no_not_at : Basis → ℕ → Bool
has_no_not_at basis op = implies (basis op) (not (makes_not op))

-- Some operator of the basis makes NOT.
abbrev pub has_not : Basis → Bool
has_not basis = not (every (has_no_not_at basis))

-- a function of one input, by its word: a constant, a copy, or NOT (10) where the basis has it
unfoldable pub is_unary_over : Basis → ℕ → Bool
is_unary_over basis word = implies (word == 2) (has_not basis)

-- A function of two inputs is a constant or a copy of an input, or NOT of an input where the basis has it, or else an
-- operator of the basis.
unfoldable pub is_binary_over : Basis → ℕ → Bool
is_binary_over basis word =
    (word == 0 || word == 15 || word == 3 || word == 5)
    || ((word == 12 || word == 10) && has_not basis)
    || basis word

-- by the inputs, of which there are at most two
unfoldable pub is_cover_over : Basis → Cover → List Name → Bool
is_cover_over basis c [] = true
is_cover_over basis c (a ∷ []) = is_unary_over basis (unary_word c)
is_cover_over basis c (a ∷ b ∷ []) = is_binary_over basis (binary_word c)
is_cover_over basis c (a ∷ b ∷ d ∷ inputs) = false

-- Two inputs of the same name count as one.
abbrev pub is_table_over : Basis → Table → Bool
is_table_over basis t = is_cover_over basis (merged_table t).cover (merged_table t).inputs

-- Each table of the document is over the basis.
-- Example: over NAND alone, tables for NAND, NOT, copies and constants are, and one for AND isn't.
abbrev pub IsDocumentOver : Basis → Document → Type 0
IsDocumentOver basis d = All (λ (t : Table). is_table_over basis t ≡ true) d.tables
