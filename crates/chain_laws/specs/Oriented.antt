-- Operands in increasing order.
use Rattle.std.proofs.Common.{◌≡◌, ℕ, ◌+◌, ◌≤◌, ◌<◌, Bool, true, not, leb, refl, sym, ◌∙◌, arith, inl, inr, ⊎_elim, ◌⊎◌, subst}
use Rattle.std.specs.Prelude.{if◌then◌else◌}
use Rattle.std.proofs.lemmas.Bool.{cases_lt, cond-true, cond-false, le-leb, lt-leb}
use Rattle.chain_theory.specs.Operator.{Basis}
use Rattle.chain_theory.specs.Specification.{Specification}
use Rattle.chain_theory.specs.Chain.{Step, IsStepAt}
use Rattle.chain_theory.specs.Value.{step_value}
use Rattle.op_basis.specs.Closed.{operator_of, swapped, swaps, swap_closed}
use Rattle.op_basis.specs.Laws.{operator_only, every_each}
use Rattle.chain_laws.specs.NormalForm.{IsNegation}
use Rattle.chain_laws.specs.Bodies.{Body, Fits, bits_of}
use Rattle.chain_laws.specs.Operators.{implied, value_by, swapped_value, swapped_low}
use Rattle.chain_laws.specs.Replaced.{IsSame, same_fits}
use Rattle.chain_laws.specs.Settled.{IsKeyMinimal, SamePair, paired_same}

-- a step with its operands exchanged, and its operator changed accordingly
abbrev operands_exchanged : Step → Step
operands_exchanged a = record { j = a.k; k = a.j; op = swapped a.op }

-- a step with its operands in increasing order
unfoldable pub oriented : Step → Step
oriented a = if leb a.j a.k then a else operands_exchanged a

abbrev IsOriented : Step → Type 0
IsOriented a = ((a.j ≤ a.k) × (oriented a ≡ a)) ⊎ ((a.k < a.j) × (oriented a ≡ operands_exchanged a))

orient_cases : (a : Step) → IsOriented a
unfolding oriented
orient_cases a = ⊎_elim
    (λ (falls : a.k < a.j). inr (falls, cond-false (leb a.j a.k) a (operands_exchanged a) (lt-leb a.j a.k falls)))
    (λ (rises : a.j ≤ a.k). inl (rises, cond-true (leb a.j a.k) a (operands_exchanged a) (le-leb a.j a.k rises)))
    (cases_lt a.k a.j)

-- a property of a step and of the step with exchanged operands holds of the oriented step
orient_by : (P : Step → Type 0) (a : Step) → P a → (a.k < a.j → P (operands_exchanged a)) → P (oriented a)
orient_by P a plain other = elim (orient_cases a) [ inl is ↦ subst P (sym is.1) plain | inr is ↦ subst P (sym is.1) (other is.0) ]

pub oriented_rises : (a : Step) → (oriented a).j ≤ (oriented a).k
oriented_rises a = elim (orient_cases a) [
  | inl is ↦ subst (λ (x : Step). x.j ≤ x.k) (sym is.1) is.0
  | inr is ↦ subst (λ (x : Step). x.j ≤ x.k) (sym is.1) (omega (arith, is.0))
]

pub oriented_pair : (a : Step) → SamePair (oriented a) a
oriented_pair a = orient_by (λ x. SamePair x a) a (inl (refl, refl)) (λ falls. inr (refl, refl))

operands_exchanged_negation : (op : ℕ) → op < 16 → IsNegation (swapped op) → IsNegation op
operands_exchanged_negation op low negation = ⊎_elim
    (λ (first : swapped op ≡ operator_of (λ x y. not x)). inr (operator_only (λ x y. not y) op low (λ x y. sym (swapped_value op x y) ∙ value_by (swapped op) (λ p q. not p) first y x)))
    (λ (second : swapped op ≡ operator_of (λ x y. not y)). inl (operator_only (λ x y. not x) op low (λ x y. sym (swapped_value op x y) ∙ value_by (swapped op) (λ p q. not q) second y x)))
    negation

swap_member : (basis : Basis) → swap_closed basis ≡ true → (op : ℕ) → op < 16 → basis op ≡ true → basis (swapped op) ≡ true
unfolding swaps
swap_member basis closed op low member = implied (basis op) (basis (swapped op)) (every_each (swaps basis) closed op low) member

oriented_same : (s : Specification) (basis : Basis) (r d : ℕ) (b : Body) (fits : Fits s basis r d b) → swap_closed basis ≡ true → IsSame s basis r d b fits (λ k. oriented (b.step k))
oriented_same s basis r d b fits closed = record {
  below = λ k low. let is = fits.below k low in orient_by (IsStepAt (s.inputs + 1 + k)) (b.step k) is
      (λ falls. record { j_from = is.k_from; j_below = is.k_below; k_from = is.j_from; k_below = is.j_below; op_below = swapped_low (b.step k).op });
  over = λ k low. orient_by (λ x. basis x.op ≡ true) (b.step k) (fits.over k low) (λ falls. swap_member basis closed (b.step k).op (fits.below k low).op_below (fits.over k low));
  rises = λ k low. let up = fits.rises k low in
      orient_by (λ x. (fits.height x.j < fits.height (s.inputs + 1 + k)) × (fits.height x.k < fits.height (s.inputs + 1 + k))) (b.step k) up (λ falls. (up.1, up.0));
  same = λ t k low. let bits : ℕ → Bool = bits_of s.inputs r b.step t in
      orient_by (λ x. step_value bits x ≡ step_value bits (b.step k)) (b.step k) refl (λ falls. swapped_value (b.step k).op (bits (b.step k).j) (bits (b.step k).k));
}

abbrev pub oriented_body : Body → Body
oriented_body b = record { step = λ k. oriented (b.step k); outs = b.outs }

pub oriented_fits : (s : Specification) (basis : Basis) (r d : ℕ) (b : Body) → Fits s basis r d b → swap_closed basis ≡ true → Fits s basis r d (oriented_body b)
oriented_fits s basis r d b fits closed = same_fits s basis r d b fits (λ k. oriented (b.step k)) (oriented_same s basis r d b fits closed)

pub oriented_settled : (s : Specification) (basis : Basis) (r d : ℕ) (b : Body) → Fits s basis r d b → IsKeyMinimal s basis r b.step → IsKeyMinimal s basis r (λ k. oriented (b.step k))
oriented_settled s basis r d b fits settled = record {
  paired = paired_same s basis r b.step (λ k. oriented (b.step k)) (λ k. oriented_pair (b.step k)) settled.paired;
  negation_of_equal = λ i low. let a : Step = b.step i in orient_by (λ x. IsNegation x.op → x.j ≡ x.k) a (settled.negation_of_equal i low)
      (λ falls negation. sym (settled.negation_of_equal i low (operands_exchanged_negation a.op (fits.below i low).op_below negation)));
}
