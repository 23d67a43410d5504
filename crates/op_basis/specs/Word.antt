-- The word of an operator: its values at (0,0), (0,1), (1,0) and (1,1), each the character `0` or `1`.
use Rattle.std.specs.Prelude.{ℕ, ◌==◌, Bool, true, false, List, [], ◌∷◌, Option, Some, None, if◌then◌else◌}
use Rattle.chain_theory.specs.Operator.{apply}
use Rattle.op_basis.specs.Closed.{of_values}

-- the bit of a character
abbrev pub bit_in : ℕ → Option Bool
bit_in c = if c == 48 then Some false else (if c == 49 then Some true else None)

-- the operator with these four values, where all are bits
abbrev pub of_bits : Option Bool → Option Bool → Option Bool → Option Bool → Option ℕ
of_bits (Some at_00) (Some at_01) (Some at_10) (Some at_11) = Some (of_values at_00 at_01 at_10 at_11)
of_bits at_00 at_01 at_10 at_11 = None

-- the operator of a word of four characters
-- Example: 0110 is the operator 6, which is XOR; 011 and 0120 aren't words of operators.
unfoldable pub operator_in : List ℕ → Option ℕ
operator_in (a ∷ b ∷ c ∷ d ∷ []) = of_bits (bit_in a) (bit_in b) (bit_in c) (bit_in d)
operator_in other = None

-- the character of a bit
abbrev pub character : Bool → ℕ
character bit = if bit then 49 else 48

-- the word of an operator
unfoldable pub word_text : ℕ → List ℕ
word_text op = character (apply op false false) ∷ character (apply op false true) ∷ character
    (apply op true false) ∷ character (apply op true true) ∷ []
