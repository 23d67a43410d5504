-- Masks: a digit is exchanged by an exclusive or, and each set of small numbers has a mask.
use Rattle.std.proofs.Common.{◌≡◌, ℕ, ◌*◌, ◌%◌, ◌^◌, ◌<◌, Bool, true, false, ◌==◌, refl, sym, ap, ◌∙◌, arith, inl, inr}
use Rattle.std.specs.Prelude.{bit_xor}
use Rattle.std.proofs.lemmas.Bool.{cases_eq}
use Rattle.std.proofs.Math.Bool.{beq}
use Rattle.std.proofs.Math.Nat.{mod-eq_of_lt}
use Rattle.std.proofs.Math.Pow.{pow-lt}
use Rattle.std.proofs.lemmas.Grind.{common_steps}
use Rattle.std.proofs.lemmas.Nat.Bits.{bit_at-pow_same, bit_at-pow_other}
use Rattle.chain_theory.specs.Operator.{digit}
use Rattle.op_basis.specs.WordOperator.{differ}
use Rattle.op_basis.specs.WordOperatorLaws.{digit_xor}
use Rattle.chain_laws.specs.Follow.{with_own, own_has, other_has}

pow_own : (p : ℕ) → digit (2 ^ p) p ≡ true
pow_own p = ap (λ (x : ℕ). x == 1) (bit_at-pow_same p)

pow_other : (p i : ℕ) → (i ≡ p → ⊥) → digit (2 ^ p) i ≡ false
pow_other p i other = ap (λ (x : ℕ). x == 1) (bit_at-pow_other p i other)

differ_false : (b : Bool) → differ b false ≡ b
differ_false true = refl
differ_false false = refl

differ_true : (a b : Bool) → (a ≡ b → ⊥) → differ a true ≡ b
differ_true true true apart = absurd (apart refl)
differ_true true false apart = refl
differ_true false true apart = refl
differ_true false false apart = absurd (apart refl)

beq_apart : (a b : Bool) → beq a b ≡ false → a ≡ b → ⊥
beq_apart true true e f = absurd cc
beq_apart true false e f = absurd cc
beq_apart false true e f = absurd cc
beq_apart false false e f = absurd cc

power_mod : (k : ℕ) → k < 32 → 1 * 2 ^ k % 4294967296 ≡ 2 ^ k
power_mod k low =
    let one : 1 * 2 ^ k ≡ 2 ^ k = omega arith in
    let small : 2 ^ k < 4294967296 = pow-lt low in
    ap (λ (x : ℕ). x % 4294967296) one ∙ mod-eq_of_lt small

-- the digit of p has the wrong value, and is exchanged
put_other : (mask p : ℕ) (old member : Bool) → old ≡ digit mask p → (old ≡ member → ⊥) → (i : ℕ) → digit (bit_xor mask (2 ^ p)) i ≡ with_own (digit mask) p member i
put_other mask p old member is apart i = elim (cases_eq i p) [
  | inl here ↦
      digit_xor mask (2 ^ p) i
      ∙ ap (λ (x : ℕ). differ (digit mask x) (digit (2 ^ p) x)) here
      ∙ ap (λ (x : Bool). differ (digit mask p) x) (pow_own p)
      ∙ differ_true (digit mask p) member (λ same. apart (is ∙ same))
      ∙ sym (own_has (digit mask) p i member here)
  | inr other ↦
      digit_xor mask (2 ^ p) i
      ∙ ap (λ (x : Bool). differ (digit mask i) x) (pow_other p i other)
      ∙ differ_false (digit mask i)
      ∙ sym (other_has (digit mask) p i member other)
]

pub put_shifted : (mask p : ℕ) (old member : Bool) → p < 32 → old ≡ digit mask p → beq old member ≡ false → (i : ℕ) → digit (bit_xor mask (1 * 2 ^ p % 4294967296)) i ≡ with_own (digit mask) p member i
put_shifted mask p old member low is apart i =
    ap (λ (x : ℕ). digit (bit_xor mask x) i) (power_mod p low) ∙ put_other mask p old member is (beq_apart old member apart) i

-- the digit of p has the right value
pub put_same : (mask p : ℕ) (old member : Bool) → old ≡ digit mask p → old ≡ member → (i : ℕ) → digit mask i ≡ with_own (digit mask) p member i
put_same mask p old member is same i = elim (cases_eq i p) [
  | inl here ↦ ap (digit mask) here ∙ sym is ∙ same ∙ sym (own_has (digit mask) p i member here)
  | inr other ↦ sym (other_has (digit mask) p i member other)
]

pub ruleset masking = (common_steps, put_same)
