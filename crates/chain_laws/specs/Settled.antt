-- Chains whose keys can't decrease any more, and chains with the same pairs.
use Rattle.std.proofs.Common.{◌≡◌, ℕ, ◌+◌, ◌≤◌, ◌<◌, true, sym, ◌∙◌, arith, inl, inr, ⊎_elim, ◌⊎◌, subst}
use Rattle.std.proofs.lemmas.Bool.Decides.{nat_tests}
use Rattle.chain_theory.specs.Operator.{Basis}
use Rattle.chain_theory.specs.Specification.{Specification}
use Rattle.chain_theory.specs.Chain.{Step}
use Rattle.op_basis.specs.Closed.{reapply_closed}
use Rattle.tt_core.specs.Symmetry.{IsSymmetric}
use Rattle.chain_laws.specs.Keys.{larger, smaller, ComesBefore}
use Rattle.chain_laws.specs.NormalForm.{IsNegation, Reads, ReadsWithout, IsReapplication}

-- The rules of the normal form that hold once the keys can't decrease, for the steps of index 0 to
-- r - 1: first the three rules on pairs alone, and then also the rule on negations.
pub record IsPaired (s : Specification) (basis : Basis) (r : ℕ) (step : ℕ → Step) : Type 0 where
  pub in_order : (i : ℕ) → i + 1 < r → ComesBefore (step (i + 1)) (step i) → ⊥
  pub not_again : reapply_closed basis ≡ true → (i k : ℕ) → i < k → k < r → IsReapplication (s.inputs + 1 + i) (step i) (step k) → ⊥
  pub earlier_first : (p q : ℕ) → 1 ≤ p → p < q → q ≤ s.inputs → IsSymmetric s p q → (k : ℕ) → k < r → ReadsWithout (step k) q p → (i : ℕ) × (i < k) × ReadsWithout (step i) p q

pub record IsKeyMinimal (s : Specification) (basis : Basis) (r : ℕ) (step : ℕ → Step) : Type 0 where
  pub paired : IsPaired s basis r step
  pub negation_of_equal : (i : ℕ) → i < r → IsNegation (step i).op → (step i).j ≡ (step i).k

-- ---- the same pair

-- two steps have the same operands, in the same order or exchanged
abbrev pub SamePair : Step → Step → Type 0
SamePair a b = ((a.j ≡ b.j) × (a.k ≡ b.k)) ⊎ ((a.j ≡ b.k) × (a.k ≡ b.j))

pub pair_back : (a b : Step) → SamePair a b → SamePair b a
pair_back a b same = elim same [ inl e ↦ inl (sym e.0, sym e.1) | inr e ↦ inr (sym e.1, sym e.0) ]

pub pair_reads : (a b : Step) → SamePair a b → (p : ℕ) → Reads a p → Reads b p
pair_reads a b same p reads = elim same [
  | inl e ↦ ⊎_elim (λ (at_j : a.j ≡ p). inl (sym e.0 ∙ at_j)) (λ (at_k : a.k ≡ p). inr (sym e.1 ∙ at_k)) reads
  | inr e ↦ ⊎_elim (λ (at_j : a.j ≡ p). inr (sym e.0 ∙ at_j)) (λ (at_k : a.k ≡ p). inl (sym e.1 ∙ at_k)) reads
]

pub pair_without : (a b : Step) → SamePair a b → (p q : ℕ) → ReadsWithout a p q → ReadsWithout b p q
pair_without a b same p q reads = (pair_reads a b same p reads.0, λ there. reads.1 (pair_reads b a (pair_back a b same) q there))

pair_larger : (a b : Step) → SamePair a b → larger a ≡ larger b
pair_larger a b same = elim same [ inl e ↦ omega (arith, e.0, e.1) | inr e ↦ omega (arith, e.0, e.1) ]

smaller_crossed : (a b : Step) → a.j ≡ b.k → a.k ≡ b.j → smaller a ≡ smaller b
smaller_crossed a b ej ek = grind (arith, nat_tests)

smaller_straight : (a b : Step) → a.j ≡ b.j → a.k ≡ b.k → smaller a ≡ smaller b
smaller_straight a b ej ek = grind (arith, nat_tests)

pair_smaller : (a b : Step) → SamePair a b → smaller a ≡ smaller b
pair_smaller a b same = elim same [ inl e ↦ smaller_straight a b e.0 e.1 | inr e ↦ smaller_crossed a b e.0 e.1 ]

pair_before : (a b c d : Step) → SamePair a c → SamePair b d → ComesBefore a b → ComesBefore c d
pair_before a b c d ac bd before = elim before [
  | inl lower ↦ inl (omega (arith, pair_larger a c ac, pair_larger b d bd))
  | inr same ↦ inr (omega (arith, same.0, pair_larger a c ac, pair_larger b d bd), omega (arith, same.1, pair_smaller a c ac, pair_smaller b d bd))
]

pair_again : (place : ℕ) (a b c d : Step) → SamePair a c → SamePair b d → IsReapplication place a b → IsReapplication place c d
pair_again place a b c d ac bd again = elim again [
  | inl of_j ↦ let reads : Reads c b.k = pair_reads a c ac b.k of_j.1 in elim bd [
    | inl e ↦ inl (sym e.0 ∙ of_j.0, subst (Reads c) e.1 reads)
    | inr e ↦ inr (sym e.0 ∙ of_j.0, subst (Reads c) e.1 reads)
  ]
  | inr of_k ↦ let reads : Reads c b.j = pair_reads a c ac b.j of_k.1 in elim bd [
    | inl e ↦ inr (sym e.1 ∙ of_k.0, subst (Reads c) e.0 reads)
    | inr e ↦ inl (sym e.1 ∙ of_k.0, subst (Reads c) e.0 reads)
  ]
]

-- Steps with the same pairs satisfy the same rules of pairs.
pub paired_same : (s : Specification) (basis : Basis) (r : ℕ) (old new : ℕ → Step) → ((k : ℕ) → SamePair (new k) (old k)) → IsPaired s basis r old → IsPaired s basis r new
paired_same s basis r old new same is = record {
  in_order = λ i low before. is.in_order i low (pair_before (new (i + 1)) (new i) (old (i + 1)) (old i) (same (i + 1)) (same i) before);
  not_again = λ closed i k before low again. is.not_again closed i k before low (pair_again (s.inputs + 1 + i) (new i) (new k) (old i) (old k) (same i) (same k) again);
  earlier_first = λ p q from less low symmetric k inside reads.
      let found = is.earlier_first p q from less low symmetric k inside (pair_without (new k) (old k) (same k) q p reads) in
      (found.0, found.1, pair_without (old found.0) (new found.0) (pair_back (new found.0) (old found.0) (same found.0)) p q found.2);
}
