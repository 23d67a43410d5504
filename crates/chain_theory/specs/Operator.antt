-- Operators of two bits, and bases (Knuth, TAOCP 7.1.2).
use Rattle.std.specs.Prelude.{ℕ, Bool, true, false, ◌==◌}
use Rattle.std.specs.Int.{bit_at}

-- the binary digit of weight 2 ^ k of a number
-- Example: the digits 3, 2, 1, 0 of 6 are 0, 1, 1, 0.
abbrev pub digit : ℕ → ℕ → Bool
digit number k = bit_at number k == 1

-- An operator is written as the word of its values at (0,0), (0,1), (1,0) and (1,1), and it is the
-- number from 0 to 15 that this word spells in binary.
-- Example: AND is 0001, the number 1; XOR is 0110, the number 6; NAND is 1110, the number 14.
-- The value of the operator 0010 is 1 at (1,0) alone: a and not b.
abbrev pub apply : ℕ → Bool → Bool → Bool
apply op false false = digit op 3
apply op false true = digit op 2
apply op true false = digit op 1
apply op true true = digit op 0

-- A basis is a set of operators (a gate set), given by its membership test.
-- Example: the basis of NAND alone is λ op. op == 14.
abbrev pub Basis : Type 0
Basis = ℕ → Bool
