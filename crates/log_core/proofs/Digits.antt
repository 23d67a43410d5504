-- Decimal numbers, their digits two by two.
use Rattle.std.proofs.Common.{◌≡◌, ℕ, zero, suc, ◌+◌, ◌-◌, ◌*◌, ◌/◌, ◌%◌, ◌^◌, ◌<◌, ◌≤◌, Bool, true, ◌&&◌, T, eqb, []}
use Rattle.std.proofs.Common.{◌∷◌, ◌++◌, get_or, refl, ap, ◌∙◌, inl, inr, arith, eq-zero-or-pos, eqb→eq, append_assoc}
use Rattle.std.specs.Prelude.{decimal}
use Rattle.std.proofs.lemmas.Fmt.{decimal_digit, decimal_step}
use Rattle.std.proofs.lemmas.Grind.{common_steps}
use lib.Ieee.Fits.{and_l, and_r}
use Rattle.log_core.specs.declared.items.TheConstants.{PAIRS}

-- whether the table has the two digits of each number below n
abbrev are_pairs : ℕ → Bool
are_pairs zero = true
are_pairs (suc n) = (eqb (get_or PAIRS (n * 2) 0) (48 + n / 10) && eqb (get_or PAIRS (n * 2 + 1) 0) (48 + n % 10)) && are_pairs n

-- where it has them, it has those of each such number
below : (n k : ℕ) → T (are_pairs n) → k < n → (get_or PAIRS (k * 2) 0 ≡ 48 + k / 10) × (get_or PAIRS (k * 2 + 1) 0 ≡ 48 + k % 10)
below zero k all low = absurd (omega arith)
below (suc n) k all low =
    elim (eq-zero-or-pos (n - k)) [
      | inl last ↦
          let same : k ≡ n = omega arith in
          let both = and_l _ (are_pairs n) all in
          rw same (eqb→eq _ _ (and_l _ _ both), eqb→eq _ _ (and_r _ _ both))
      | inr before ↦ below n k (and_r _ (are_pairs n) all) (omega arith)
    ]

-- the first digit of a number below 100
pub tens-at : (n : ℕ) → n < 100 → get_or PAIRS (n * 2) 0 ≡ 48 + n / 10
tens-at n low = (below 100 n tt low).0

-- its last digit
pub ones-at : (n : ℕ) → n < 100 → get_or PAIRS (n * 2 + 1) 0 ≡ 48 + n % 10
ones-at n low = (below 100 n tt low).1

-- a number of two digits
pub two : (n : ℕ) → 10 ≤ n → n < 100 → decimal n ≡ (48 + n / 10) ∷ (48 + n % 10) ∷ []
two n low high = decimal_step n low (omega arith) ∙ ap (λ ds. ds ++ (48 + n % 10) ∷ []) (decimal_digit (n / 10) (omega arith))

-- a longer number: all but its last two digits, and these
pub more : (n : ℕ) → 100 ≤ n → n < 2 ^ 32 → decimal n ≡ decimal (n / 100) ++ (48 + n % 100 / 10) ∷ (48 + n % 100 % 10) ∷ []
more n low high =
    let prefix : n / 10 / 10 ≡ n / 100 = omega arith in
    let tens : n / 10 % 10 ≡ n % 100 / 10 = omega arith in
    let ones : n % 10 ≡ n % 100 % 10 = omega arith in
    rw (decimal_step n (omega arith) (omega arith), decimal_step (n / 10) (omega arith) (omega arith), append_assoc, prefix, tens, ← ones)

-- one of five digits or more: all but its last four digits, and these
pub halves-at : (n : ℕ) → 10000 ≤ n → n < 2 ^ 32 →
    decimal n ≡ (decimal (n / 10000) ++ (48 + n % 10000 / 100 / 10) ∷ (48 + n % 10000 / 100 % 10) ∷ []) ++
    (48 + n % 10000 % 100 / 10) ∷ (48 + n % 10000 % 100 % 10) ∷ []
halves-at n low high =
    let prefix : n / 100 / 100 ≡ n / 10000 = omega arith in
    let middle : n / 100 % 100 ≡ n % 10000 / 100 = omega arith in
    let last : n % 100 ≡ n % 10000 % 100 = omega arith in
    more n (omega arith) high ∙ rw (more (n / 100) (omega arith) (omega arith), prefix, middle, last) refl

pub ruleset pairs = (common_steps, tens-at, ones-at)

pub ruleset digits = (common_steps, decimal_digit, two, more)

pub ruleset halves = (common_steps, halves-at)
