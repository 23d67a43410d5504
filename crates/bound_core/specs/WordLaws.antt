-- Whether an output uses an input, by the words of its values and its care set. The rows t and
-- t + 2 ^ k are compared for all t at once, by a word and the same word shifted.
use Rattle.std.proofs.Common.{◌≡◌, ℕ, zero, suc, ◌+◌, ◌-◌, ◌/◌, ◌%◌, ◌^◌, ◌<◌, ◌≤◌, ◌==◌, Bool, true, false, ◌&&◌, not, refl, sym, ap, ap₂, ◌∙◌, arith, w64, inl, inr}
use Rattle.std.specs.Prelude.{if◌then◌else◌, slice_index, bit_and, bit_xor}
use Rattle.std.specs.Int.{bit_at, bit_not}
use Rattle.std.proofs.lemmas.Grind.{common_steps}
use Rattle.std.proofs.lemmas.Bool.{cases_lt, cases_Bool}
use Rattle.std.proofs.lemmas.Bool.Decides.{nat_tests}
use Rattle.std.proofs.lemmas.Nat.{shr-shr}
use Rattle.std.proofs.lemmas.Nat.Bits.{bit_at-lt, bit_at-zero, same_from_bits}
use Rattle.chain_theory.specs.Operator.{digit}
use Rattle.chain_theory.specs.declared.data.Cell.TheVariants.{Zero, One, Free}
use Rattle.op_basis.specs.WordOperator.{differ, input_word}
use Rattle.op_basis.specs.WordOperatorLaws.{digit_and, digit_xor}
use Rattle.tt_core.specs.Words.{Words, IsSpec, specification}
use Rattle.tt_core.specs.RowLaws.{row_below}
use Rattle.bound_core.specs.Support.{are_opposite}
use Rattle.bound_core.specs.Counts.{some_below, is_sensitive_on, uses}
use Rattle.bound_core.specs.CountLaws.{some_passes, passes_some, and_parts, true_false, no_digit}
use Rattle.chain_theory.specs.Limits.{most_inputs}

-- ---- digits of words

digit_shifted : (a s i : ℕ) → digit (a / 2 ^ s) i ≡ digit a (i + s)
digit_shifted a s i =
    let turned : s + i ≡ i + s = omega arith in
    ap (λ (x : ℕ). x % 2 == 1) (shr-shr a s i) ∙ ap (digit a) turned

-- ---- the rows whose digit of 2 ^ k is 0

abbrev pub low_rows : ℕ → ℕ
low_rows k = bit_not w64 (input_word k)

same_bit : Bool → Bool → Bool
same_bit true bit = bit
same_bit false bit = not bit

same_bit_is : (a b : Bool) → same_bit a b ≡ true → a ≡ b
unfolding same_bit
same_bit_is true true e = refl
same_bit_is true false e = absurd cc
same_bit_is false true e = absurd cc
same_bit_is false false e = refl

-- the word has the digits of f on the first rows
are_low : ℕ → ℕ → ℕ → Bool
are_low word k zero = true
are_low word k (suc t) = same_bit (digit word t) (not (digit t k)) && are_low word k t

low_at : (word k bound t : ℕ) → are_low word k bound ≡ true → t < bound → digit word t ≡ not (digit t k)
unfolding are_low
low_at word k zero t all low = absurd (omega arith)
low_at word k (suc bound) t all low =
    let parts = and_parts (same_bit (digit word bound) (not (digit bound k))) (are_low word k bound) all in
    elim (cases_lt t bound) [
      | inl below ↦ low_at word k bound t parts.1 below
      | inr last ↦ let same : t ≡ bound = omega arith in ap (digit word) same ∙ same_bit_is (digit word bound) (not (digit bound k)) parts.0 ∙ ap (λ (u : ℕ). not (digit u k)) (sym same)
    ]

low_is : (k : ℕ) → k < 6 → are_low (low_rows k) k 64 ≡ true
unfolding are_low same_bit input_word
low_is zero low = refl
low_is (suc zero) low = refl
low_is (suc (suc zero)) low = refl
low_is (suc (suc (suc zero))) low = refl
low_is (suc (suc (suc (suc zero)))) low = refl
low_is (suc (suc (suc (suc (suc zero))))) low = refl
low_is (suc (suc (suc (suc (suc (suc k)))))) low = absurd (omega arith)

-- ---- rows on which the value changes with the input

-- the rows t whose digit of weight 2 ^ k is 0, where rows t and t + 2 ^ k are specified and have different values
abbrev pub sensitive_rows : ℕ → ℕ → ℕ → ℕ
sensitive_rows on care k = bit_and (bit_and (bit_and care (care / 2 ^ 2 ^ k)) (bit_xor on (on / 2 ^ 2 ^ k))) (low_rows k)

pub opposite_bits : (care care' on on' : Bool) →
    ((care && care') && differ on on') ≡ are_opposite (if care then (if on then One else Zero) else Free)
    (if care' then (if on' then One else Zero) else Free)
opposite_bits false care' on on' = refl
opposite_bits true false true on' = refl
opposite_bits true false false on' = refl
opposite_bits true true true true = refl
opposite_bits true true true false = refl
opposite_bits true true false true = refl
opposite_bits true true false false = refl

sensitive_digit : (on care k t : ℕ) → digit (sensitive_rows on care k) t ≡ (((digit care t && digit care (t + 2 ^ k)) && differ (digit on t) (digit on (t + 2 ^ k))) && digit (low_rows k) t)
sensitive_digit on care k t =
    rw (
      digit_and (bit_and (bit_and care (care / 2 ^ 2 ^ k)) (bit_xor on (on / 2 ^ 2 ^ k))) (low_rows k) t,
      digit_and (bit_and care (care / 2 ^ 2 ^ k)) (bit_xor on (on / 2 ^ 2 ^ k)) t,
      digit_and care (care / 2 ^ 2 ^ k) t,
      digit_xor on (on / 2 ^ 2 ^ k) t,
      digit_shifted care (2 ^ k) t,
      digit_shifted on (2 ^ k) t,
    ) refl

-- a row's digit says whether the output's value changes with the input there
sensitive_at : (w : Words) (h j t : ℕ) → w.n ≤ most_inputs → 1 ≤ j → j ≤ w.n → t < 2 ^ w.n →
    digit (sensitive_rows (slice_index w.on (h - 1)) (slice_index w.care (h - 1)) (w.n - j)) t ≡
    is_sensitive_on (specification w) h j t
unfolding is_sensitive_on
sensitive_at w h j t few some low inside =
    let k : ℕ = w.n - j in
    let on : ℕ = slice_index w.on (h - 1) in
    let care : ℕ = slice_index w.care (h - 1) in
    let rows = row_below w.n few in
    let mask : digit (low_rows k) t ≡ not (digit t k) = low_at (low_rows k) k 64 t (low_is k (omega arith)) (omega arith) in
    sensitive_digit on care k t ∙ ap₂ (λ (a b : Bool). a && b) (opposite_bits (digit care t) (digit care (t + 2 ^ k)) (digit on t) (digit on (t + 2 ^ k))) mask

-- rows that aren't specified have no digit
sensitive_past : (on care k t : ℕ) → digit care t ≡ false → digit (sensitive_rows on care k) t ≡ false
sensitive_past on care k t e = sensitive_digit on care k t ∙ rw e refl

pub not_zero : (word t : ℕ) → digit word t ≡ true → not (word == 0) ≡ true
not_zero zero t e = absurd (true_false (sym e ∙ ap (λ (x : ℕ). x == 1) (bit_at-zero t)))
not_zero (suc word) t e = grind (arith, common_steps, nat_tests)

pub is_zero : (word : ℕ) → ((t : ℕ) → digit word t ≡ false) → not (word == 0) ≡ false
is_zero word none =
    let all : word ≡ 0 = same_from_bits word 0 (λ t. no_digit (bit_at word t) (bit_at-lt word t) (none t) ∙ sym (bit_at-zero t)) in
    ap (λ (x : ℕ). not (x == 0)) all

-- The word has a row exactly where the output uses the input.
pub uses_by_words : (w : Words) (h j word : ℕ) → IsSpec w → 1 ≤ j → j ≤ w.n →
    word ≡ sensitive_rows (slice_index w.on (h - 1)) (slice_index w.care (h - 1)) (w.n - j) →
    not (word == 0) ≡ uses (specification w) h j
unfolding uses
uses_by_words w h j word spec some low is = elim (cases_Bool (some_below (is_sensitive_on (specification w) h j) (2 ^ w.n))) [
  | inl used ↦
      let found = some_passes (is_sensitive_on (specification w) h j) (2 ^ w.n) used in
      not_zero word found.0 (ap (λ (x : ℕ). digit x found.0) is ∙ sensitive_at w h j found.0 spec.inputs some low found.1 ∙ found.2) ∙ sym used
  | inr unused ↦ is_zero word (none unused) ∙ sym unused
]
  where
    none : some_below (is_sensitive_on (specification w) h j) (2 ^ w.n) ≡ false → (t : ℕ) → digit word t ≡ false
    none unused t = elim (cases_lt t (2 ^ w.n)) [
      | inl inside ↦ elim (cases_Bool (is_sensitive_on (specification w) h j t)) [
        | inl turns ↦ absurd (true_false (sym (passes_some (is_sensitive_on (specification w) h j) (2 ^ w.n) t inside turns) ∙ unused))
        | inr stays ↦ ap (λ (x : ℕ). digit x t) is ∙ sensitive_at w h j t spec.inputs some low inside ∙ stays
      ]
      | inr past ↦ ap (λ (x : ℕ). digit x t) is ∙ sensitive_past (slice_index w.on (h - 1)) (slice_index w.care (h - 1)) (w.n - j) t (spec.rows (h - 1) t past)
    ]
