-- The bits of words: of a conjunction, an exclusive or, an operator on two words, and the word of an input.
use Rattle.std.proofs.Common.{◌≡◌, ◌∙◌, ℕ, zero, suc, ◌+◌, ◌%◌, ◌<◌, Bool, true, false, ◌&&◌, refl, ap, arith, min}
use Rattle.std.specs.Prelude.{bit_and, bit_xor, ◌==◌}
use Rattle.std.specs.Int.{bit_at}
use Rattle.std.proofs.lemmas.Bool.{agree_below_at}
use Rattle.std.proofs.lemmas.Nat.Bits.{bit_at-zero, bit_at_and, bit_at_xor, bit_at_ones, bit_at-lt}
use Rattle.chain_theory.specs.Operator.{apply, digit}
use Rattle.op_basis.specs.WordOperator.{spread, differ, masks_of, combined, on_words, input_word}

-- ---- one bit of the operations

and_bits : (x y : ℕ) → x < 2 → y < 2 → (min x y == 1) ≡ ((x == 1) && (y == 1))
and_bits zero zero lx ly = refl
and_bits zero (suc zero) lx ly = refl
and_bits (suc zero) zero lx ly = refl
and_bits (suc zero) (suc zero) lx ly = refl
and_bits (suc (suc x)) y lx ly = absurd (omega (arith, lx))
and_bits zero (suc (suc y)) lx ly = absurd (omega (arith, ly))
and_bits (suc zero) (suc (suc y)) lx ly = absurd (omega (arith, ly))

xor_bits : (x y : ℕ) → x < 2 → y < 2 → ((x + y) % 2 == 1) ≡ differ (x == 1) (y == 1)
xor_bits zero zero lx ly = refl
xor_bits zero (suc zero) lx ly = refl
xor_bits (suc zero) zero lx ly = refl
xor_bits (suc zero) (suc zero) lx ly = refl
xor_bits (suc (suc x)) y lx ly = absurd (omega (arith, lx))
xor_bits zero (suc (suc y)) lx ly = absurd (omega (arith, ly))
xor_bits (suc zero) (suc (suc y)) lx ly = absurd (omega (arith, ly))

pub digit_and : (a b i : ℕ) → digit (bit_and a b) i ≡ (digit a i && digit b i)
digit_and a b i = ap (λ (x : ℕ). x == 1) (bit_at_and a b i) ∙ and_bits (bit_at a i) (bit_at b i) (bit_at-lt a i) (bit_at-lt b i)

pub digit_xor : (a b i : ℕ) → digit (bit_xor a b) i ≡ differ (digit a i) (digit b i)
digit_xor a b i = ap (λ (x : ℕ). x == 1) (bit_at_xor a b i) ∙ xor_bits (bit_at a i) (bit_at b i) (bit_at-lt a i) (bit_at-lt b i)

pub digit_spread : (b : Bool) (i : ℕ) → i < 64 → digit (spread b) i ≡ b
digit_spread true i low = ap (λ (x : ℕ). x == 1) (bit_at_ones 64 i low)
digit_spread false i low = ap (λ (x : ℕ). x == 1) (bit_at-zero i)

-- ---- operators

-- one of four values, chosen by two bits
abbrev chosen : Bool → Bool → Bool → Bool → Bool → Bool → Bool
chosen n s f t false false = n
chosen n s f t false true = s
chosen n s f t true false = f
chosen n s f t true true = t

sum_is : (n s f t a b : Bool) → differ (differ (differ n (differ n f && a)) (differ n s && b)) (differ (differ n f) (differ s t) && (a && b)) ≡ chosen n s f t a b
sum_is n s f t a b = grind arith

apply_is : (op : ℕ) (a b : Bool) → chosen (apply op false false) (apply op false true) (apply op true false) (apply op true true) a b ≡ apply op a b
apply_is op false false = refl
apply_is op false true = refl
apply_is op true false = refl
apply_is op true true = refl

masked_bit : (c : Bool) (x i : ℕ) → i < 64 → digit (bit_and (spread c) x) i ≡ (c && digit x i)
masked_bit c x i low = digit_and (spread c) x i ∙ ap (λ (y : Bool). y && digit x i) (digit_spread c i low)

-- An operator on words is the operator on each of their bits.
pub combined_bit : (op a b i : ℕ) → i < 64 → digit (combined (masks_of op) a b) i ≡ apply op (digit a i) (digit b i)
unfolding combined
combined_bit op a b i low =
    let n : Bool = apply op false false in
    let s : Bool = apply op false true in
    let f : Bool = apply op true false in
    let t : Bool = apply op true true in
    let both : Bool = differ (differ n f) (differ s t) in
    let e1 : digit (bit_xor (spread n) (bit_and (spread (differ n f)) a)) i ≡ differ n (differ n f && digit a i) =
    digit_xor (spread n) (bit_and (spread (differ n f)) a) i
    ∙ ap (λ (y : Bool). differ y (digit (bit_and (spread (differ n f)) a) i)) (digit_spread n i low)
    ∙ ap (differ n) (masked_bit (differ n f) a i low) in
    let e2 : digit (bit_xor (bit_xor (spread n) (bit_and (spread (differ n f)) a)) (bit_and (spread (differ n s)) b)) i ≡ differ (differ n (differ n f && digit a i)) (differ n s && digit b i) =
    digit_xor (bit_xor (spread n) (bit_and (spread (differ n f)) a)) (bit_and (spread (differ n s)) b) i
    ∙ ap (λ (y : Bool). differ y (digit (bit_and (spread (differ n s)) b) i)) e1
    ∙ ap (differ (differ n (differ n f && digit a i))) (masked_bit (differ n s) b i low) in
    digit_xor (bit_xor (bit_xor (spread n) (bit_and (spread (differ n f)) a)) (bit_and (spread (differ n s)) b)) (bit_and (spread both) (bit_and a b)) i
    ∙ ap (λ (y : Bool). differ y (digit (bit_and (spread both) (bit_and a b)) i)) e2
    ∙ ap (differ (differ (differ n (differ n f && digit a i)) (differ n s && digit b i))) (masked_bit both (bit_and a b) i low ∙ ap (λ (y : Bool). both && y) (digit_and a b i))
    ∙ sum_is n s f t (digit a i) (digit b i)
    ∙ apply_is op (digit a i) (digit b i)

pub on_words_bit : (op a b i : ℕ) → i < 64 → digit (on_words op a b) i ≡ apply op (digit a i) (digit b i)
on_words_bit op a b i low = combined_bit op a b i low

-- ---- the words of inputs

pub input_digit : (k t : ℕ) → k < 6 → t < 64 → digit (input_word k) t ≡ digit t k
unfolding input_word
input_digit zero t few low = agree_below_at (digit 0xaaaa_aaaa_aaaa_aaaa) (λ (u : ℕ). digit u 0) 64 t refl low
input_digit (suc zero) t few low = agree_below_at (digit 0xcccc_cccc_cccc_cccc) (λ (u : ℕ). digit u 1) 64 t refl low
input_digit (suc (suc zero)) t few low = agree_below_at (digit 0xf0f0_f0f0_f0f0_f0f0) (λ (u : ℕ). digit u 2) 64 t refl low
input_digit (suc (suc (suc zero))) t few low = agree_below_at (digit 0xff00_ff00_ff00_ff00) (λ (u : ℕ). digit u 3) 64 t refl low
input_digit (suc (suc (suc (suc zero)))) t few low = agree_below_at (digit 0xffff_0000_ffff_0000) (λ (u : ℕ). digit u 4) 64 t refl low
input_digit (suc (suc (suc (suc (suc zero))))) t few low = agree_below_at (digit 0xffff_ffff_0000_0000) (λ (u : ℕ). digit u 5) 64 t refl low
input_digit (suc (suc (suc (suc (suc (suc k)))))) t few low = absurd (omega arith)
