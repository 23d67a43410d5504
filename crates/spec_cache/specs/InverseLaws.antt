-- Permuting the inputs and undoing it.
use Rattle.std.proofs.Common.{◌≡◌, ℕ, zero, suc, ◌-◌, ◌^◌, ◌≤◌, ◌<◌, ◌==◌, List, refl, sym, ap, ◌∙◌, subst, arith}
use Rattle.std.specs.Int.{bit_at}
use Rattle.std.proofs.lemmas.Nat.Bits.{bit_at-lt, same_from_bits_below}
use Rattle.chain_theory.specs.Operator.{digit}
use Rattle.chain_theory.specs.Rows.{row_digit, row_low}
use Rattle.chain_theory.specs.Specification.{Specification, input}
use Rattle.spec_cache.specs.Order.{IsOrder, IsInverse, IsPermuted, number, permuted_row}
use Rattle.spec_cache.specs.OrderLaws.{order_at}

same_bit : (x y : ℕ) → x < 2 → y < 2 → (x == 1) ≡ (y == 1) → x ≡ y
same_bit zero zero low_x low_y e = refl
same_bit zero (suc zero) low_x low_y e = absurd cc
same_bit (suc zero) zero low_x low_y e = absurd cc
same_bit (suc zero) (suc zero) low_x low_y e = refl
same_bit (suc (suc x)) y low_x low_y e = absurd (omega (arith, low_x))
same_bit zero (suc (suc y)) low_x low_y e = absurd (omega (arith, low_y))
same_bit (suc zero) (suc (suc y)) low_x low_y e = absurd (omega (arith, low_y))

-- rows that give each input the same value are equal
same_row : (n t u : ℕ) → t < 2 ^ n → u < 2 ^ n → ((j : ℕ) → 1 ≤ j → j ≤ n → input n t j ≡ input n u j) → t ≡ u
same_row n t u low_t low_u same = same_from_bits_below n t u low_t low_u (λ i below.
    let place : n - (n - i) ≡ i = omega (arith, below) in
    same_bit (bit_at t i) (bit_at u i) (bit_at-lt t i) (bit_at-lt u i)
    (subst (λ (k : ℕ). digit t k ≡ digit u k) place (same (n - i) (omega (arith, below)) (omega (arith, below)))))

row_back : (n : ℕ) (order back : List ℕ) (t : ℕ) → IsOrder n order → IsInverse n order back → t < 2 ^ n → permuted_row n order (permuted_row n back t) ≡ t
row_back n order back t is goes low =
    let there : ℕ = permuted_row n back t in
    same_row n (permuted_row n order there) t (row_low (λ i. input n there (number order i)) n) low (λ j from to.
    let at = order_at n order j is from to in
    row_digit (λ i. input n there (number order i)) n (n - j) j (omega (arith, to)) from
    ∙ row_digit (λ i. input n t (number back i)) n (n - number order j) (number order j) (omega (arith, at.1)) at.0
    ∙ ap (input n t) (goes.each j from to))

pub permuted_back : (s r : Specification) (order back : List ℕ) → IsOrder s.inputs order → IsPermuted s r order → IsInverse s.inputs order back → IsPermuted r s back
permuted_back s r order back is permuted goes = record {
  inputs = sym permuted.inputs;
  outputs = sym permuted.outputs;
  cell = λ h t from to low.
      let below : t < 2 ^ s.inputs = subst (λ (n : ℕ). t < 2 ^ n) permuted.inputs low in
      let there : ℕ = permuted_row s.inputs back t in
      ap (s.cell h) (sym (row_back s.inputs order back t is goes below))
      ∙ sym (permuted.cell h there from (omega (arith, to, permuted.outputs)) (row_low (λ i. input s.inputs t (number back i)) s.inputs))
      ∙ ap (λ (n : ℕ). r.cell h (permuted_row n back t)) (sym permuted.inputs);
}
