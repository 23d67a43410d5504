-- Rows by their bits.
use Rattle.std.specs.Prelude.{◌≡◌, ℕ, zero, suc, ◌+◌, ◌-◌, ◌*◌, ◌/◌, ◌%◌, ◌^◌, ◌≤◌, ◌<◌, ◌==◌, Bool, true, false}
use Rattle.std.specs.Prelude.{if◌then◌else◌}
use Rattle.std.proofs.Common.{arith, ◌∙◌, ap, cond}
use Rattle.std.proofs.Math.Nat.{two-pow-succ}
use Rattle.std.proofs.lemmas.Nat.Bits.{bit_at_lowest, bit_at-suc}
use Rattle.std.specs.Int.{bit_at}
use Rattle.chain_theory.specs.Operator.{digit}

-- The row of n inputs that gives each input j the bit `bits j`. Input 1 is the most significant bit.
-- Example: for two inputs with the bits 1 and 0 it is row 2.
unfoldable pub row_of : ℕ → (ℕ → Bool) → ℕ
row_of zero bits = 0
row_of (suc n) bits = 2 * row_of n bits + (if bits (suc n) then 1 else 0)

lowest_bit : (r : ℕ) (b : Bool) → digit (2 * r + cond b 1 0) 0 ≡ b
lowest_bit r true =
    let rest : (2 * r + 1) % 2 ≡ 1 = omega arith in
    ap (λ (x : ℕ). x == 1) (bit_at_lowest (2 * r + 1) ∙ rest)
lowest_bit r false =
    let rest : (2 * r + 0) % 2 ≡ 0 = omega arith in
    ap (λ (x : ℕ). x == 1) (bit_at_lowest (2 * r + 0) ∙ rest)

higher_bit : (r i : ℕ) (b : Bool) → digit (2 * r + cond b 1 0) (suc i) ≡ digit r i
higher_bit r i true =
    let half : (2 * r + 1) / 2 ≡ r = omega arith in
    ap (λ (x : ℕ). x == 1) (bit_at-suc (2 * r + 1) i ∙ ap (λ (x : ℕ). bit_at x i) half)
higher_bit r i false =
    let half : (2 * r + 0) / 2 ≡ r = omega arith in
    ap (λ (x : ℕ). x == 1) (bit_at-suc (2 * r + 0) i ∙ ap (λ (x : ℕ). bit_at x i) half)

-- the digit of weight 2 ^ i of the row is the bit of its input
pub row_digit : (bits : ℕ → Bool) (k i j : ℕ) → i + j ≡ k → 1 ≤ j → digit (row_of k bits) i ≡ bits j
unfolding row_of
row_digit bits zero i j e some = absurd (omega arith)
row_digit bits (suc k) zero j e some =
    let last : suc k ≡ j = omega arith in
    lowest_bit (row_of k bits) (bits (suc k)) ∙ ap bits last
row_digit bits (suc k) (suc i) j e some = higher_bit (row_of k bits) i (bits (suc k))
    ∙ row_digit bits k i j (omega arith) some

-- the row is one of the 2 ^ k rows
pub row_low : (bits : ℕ → Bool) (k : ℕ) → row_of k bits < 2 ^ k
unfolding row_of
row_low bits zero = omega arith
row_low bits (suc k) = elim (bits (suc k)) as (λ b. 2 * row_of k bits + cond b 1 0 < 2 ^ suc k) [
  | true ↦ omega (arith, row_low bits k, two-pow-succ k)
  | false ↦ omega (arith, row_low bits k, two-pow-succ k)
]
