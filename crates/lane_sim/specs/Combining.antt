-- Operators on vectors of four words, and the words of operands.
use Rattle.std.specs.Prelude.{ℕ, ◌+◌, ◌≤◌, List, slice_index_or, bit_and, bit_xor, replicate}
use Rattle.std.specs.Simd.Lanes.{zip2, chunk}
use Rattle.op_basis.specs.declared.words.Masks.{Masks}
pub use Rattle.op_basis.specs.WordOperator.{differ}
use Rattle.lane_sim.specs.declared.rows.Operand.{Operand}
use Rattle.lane_sim.specs.declared.rows.Operand.TheVariants.{Zero, One, Row}

-- an operator on two vectors of four words, with its masks on each of the four
unfoldable pub combined_four : Masks → List ℕ → List ℕ → List ℕ
combined_four m a b = zip2 bit_xor (zip2 bit_xor
    (zip2 bit_xor (replicate 4 m.none) (zip2 bit_and (replicate 4 m.first) a)) (zip2 bit_and (replicate 4 m.second) b))
    (zip2 bit_and (replicate 4 m.both) (zip2 bit_and a b))

-- ---- operands

-- word j of an operand, which is a constant or a row that begins at a node of the lanes
abbrev pub operand_word : List ℕ → Operand → ℕ → ℕ
operand_word lanes Zero j = 0
operand_word lanes One j = 18446744073709551615
operand_word lanes (Row start) j = slice_index_or lanes (start + j) 0

-- four words of it, from word j on
abbrev pub operand_four : List ℕ → Operand → ℕ → List ℕ
operand_four lanes Zero j = replicate 4 0
operand_four lanes One j = replicate 4 18446744073709551615
operand_four lanes (Row start) j = chunk (start + j) 4 lanes

-- the first `count` words of it end before the index `end` of the lanes
abbrev pub EndsBefore : ℕ → ℕ → Operand → Type 0
EndsBefore end count Zero = Unit {0}
EndsBefore end count One = Unit {0}
EndsBefore end count (Row start) = start + count ≤ end
