-- Exchanging two places.
use Rattle.std.proofs.Common.{◌≡◌, ℕ, ◌+◌, ◌≤◌, ◌<◌, refl, sym, ap, ◌∙◌, arith, inl, inr, ⊎_elim, ◌⊎◌}
use Rattle.std.proofs.lemmas.Bool.{cases_eq}
use Rattle.std.proofs.lemmas.Bool.Decides.{nat_tests}
use Rattle.chain_theory.specs.Chain.{Step, IsStepAt}
use Rattle.tt_core.specs.Symmetry.{renamed}
use Rattle.chain_laws.specs.NormalForm.{Reads}
use Rattle.chain_laws.specs.Moved.{moved}

pub renamed_first : (p q x : ℕ) → x ≡ p → renamed p q x ≡ q
renamed_first p q x e = grind (arith, nat_tests)

pub renamed_second : (p q x : ℕ) → x ≡ q → renamed p q x ≡ p
renamed_second p q x e = grind (arith, nat_tests)

pub renamed_other : (p q x : ℕ) → (x ≡ p → ⊥) → (x ≡ q → ⊥) → renamed p q x ≡ x
renamed_other p q x no_p no_q = grind (arith, nat_tests)

-- x is p, or q, or neither
abbrev pub IsRenamed : ℕ → ℕ → ℕ → Type 0
IsRenamed p q x = ((x ≡ p) × (renamed p q x ≡ q)) ⊎ (((x ≡ q) × (renamed p q x ≡ p)) ⊎ ((x ≡ p → ⊥) × (x ≡ q → ⊥) × (renamed p q x ≡ x)))

pub renamed_cases : (p q x : ℕ) → IsRenamed p q x
renamed_cases p q x = ⊎_elim
    (λ (is_p : x ≡ p). inl (is_p, renamed_first p q x is_p))
    (λ (no_p : x ≡ p → ⊥). inr (⊎_elim
    (λ (is_q : x ≡ q). inl (is_q, renamed_second p q x is_q))
    (λ (no_q : x ≡ q → ⊥). inr (no_p, no_q, renamed_other p q x no_p no_q))
    (cases_eq x q)))
    (cases_eq x p)

pub renamed_back : (p q x : ℕ) → renamed p q (renamed p q x) ≡ x
renamed_back p q x = elim (renamed_cases p q x) [
  | inl is_p ↦ renamed_second p q (renamed p q x) is_p.1 ∙ sym is_p.0
  | inr (inl is_q) ↦ renamed_first p q (renamed p q x) is_q.1 ∙ sym is_q.0
  | inr (inr other) ↦ ap (renamed p q) other.2 ∙ other.2
]

pub renamed_within : (p q x low high : ℕ) → low ≤ p → low ≤ q → p ≤ high → q ≤ high → low ≤ x → x ≤ high → (low ≤ renamed p q x) × (renamed p q x ≤ high)
renamed_within p q x low high a b c d e f = elim (renamed_cases p q x) [
  | inl is_p ↦ (omega (arith, is_p.1), omega (arith, is_p.1))
  | inr (inl is_q) ↦ (omega (arith, is_q.1), omega (arith, is_q.1))
  | inr (inr other) ↦ (omega (arith, other.2), omega (arith, other.2))
]

pub renamed_from : (p q x : ℕ) → 1 ≤ p → 1 ≤ q → 1 ≤ x → 1 ≤ renamed p q x
renamed_from p q x a b c = (renamed_within p q x 1 (p + q + x) a b (omega arith) (omega arith) c (omega arith)).0

pub renamed_low : (p q x high : ℕ) → p ≤ high → q ≤ high → x ≤ high → renamed p q x ≤ high
renamed_low p q x high a b c = (renamed_within p q x 0 high (omega arith) (omega arith) a b (omega arith) c).1

-- places that aren't renamed
pub moved_same : (f : ℕ → ℕ) (a : Step) → f a.j ≡ a.j → f a.k ≡ a.k → moved f a ≡ a
moved_same f a ej ek =
    ap (λ (x : ℕ). let b : Step = record { j = x; k = f a.k; op = a.op } in b) ej ∙ ap (λ (x : ℕ). let b : Step = record { j = a.j; k = x; op = a.op } in b) ek

-- a step with its operands renamed is at a place above them
pub moved_below : (f : ℕ → ℕ) (old place : ℕ) (a : Step) → IsStepAt old a → ((x : ℕ) → Reads a x → 1 ≤ x → x < old → (1 ≤ f x) × (f x < place)) → IsStepAt place (moved f a)
moved_below f old place a is each =
    let of_j = each a.j (inl refl) is.j_from is.j_below in
    let of_k = each a.k (inr refl) is.k_from is.k_below in
    record { j_from = of_j.0; j_below = of_j.1; k_from = of_k.0; k_below = of_k.1; op_below = is.op_below }
