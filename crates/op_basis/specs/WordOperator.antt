-- Operators on words of 64 bits. Bit t of a word is the binary digit of weight 2 ^ t.
use Rattle.std.specs.Prelude.{ℕ, ◌==◌, Bool, true, false, not, if◌then◌else◌, bit_and, bit_xor}
use Rattle.chain_theory.specs.Operator.{apply}
use Rattle.op_basis.specs.declared.words.Masks.{Masks}

-- the word whose 64 bits are all `bit`
abbrev pub spread : Bool → ℕ
spread bit = if bit then 0xffff_ffff_ffff_ffff else 0

-- exclusive or
abbrev pub differ : Bool → Bool → Bool
differ true bit = not bit
differ false bit = bit

-- The coefficients of the algebraic normal form of an operator: the operator is the exclusive or of four
-- products, the empty one, its first operand, its second operand, and both. Each coefficient is spread over a
-- word.
-- Example: AND has only the coefficient `both`, and NAND has `both` and `none`.
abbrev pub masks_of : ℕ → Masks
masks_of op = record {
  none = spread (apply op false false);
  first = spread (differ (apply op false false) (apply op true false));
  second = spread (differ (apply op false false) (apply op false true));
  both = spread (differ (differ (apply op false false) (apply op true false)) (differ (apply op false true) (apply op true true)));
}

-- the algebraic normal form with these coefficients, on two words
unfoldable pub combined : Masks → ℕ → ℕ → ℕ
combined m a b = bit_xor (bit_xor (bit_xor m.none (bit_and m.first a)) (bit_and m.second b)) (bit_and m.both (bit_and a b))

-- an operator on each of 64 pairs of bits
abbrev pub on_words : ℕ → ℕ → ℕ → ℕ
on_words op a b = combined (masks_of op) a b

-- the word whose bit t is the digit of weight 2 ^ k of t
-- Example: for k = 0 its bits on the rows 3, 2, 1, 0 are 1, 0, 1, 0.
unfoldable pub input_word : ℕ → ℕ
input_word k = if k == 0 then 0xaaaa_aaaa_aaaa_aaaa
    else (if k == 1 then 0xcccc_cccc_cccc_cccc
    else (if k == 2 then 0xf0f0_f0f0_f0f0_f0f0
    else (if k == 3 then 0xff00_ff00_ff00_ff00
    else (if k == 4 then 0xffff_0000_ffff_0000
    else 0xffff_ffff_0000_0000))))
