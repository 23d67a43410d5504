-- Re-application: a step reads another step and one of its operands.
use Rattle.std.proofs.Common.{◌≡◌, ℕ, ◌+◌, ◌≤◌, ◌<◌, ◌==◌, Bool, true, false, not, ◌&&◌, ◌||◌, eqb-true, sym, ap, ◌∙◌, arith, inl, inr, ⊎_elim, ◌⊎◌, subst}
use Rattle.std.proofs.lemmas.Bool.{or_cases, and_parts}
use Rattle.chain_theory.specs.Operator.{apply, Basis}
use Rattle.chain_theory.specs.Specification.{Specification}
use Rattle.chain_theory.specs.Chain.{Step, IsStepAt}
use Rattle.chain_theory.specs.Value.{step_value}
use Rattle.chain_theory.specs.declared.data.Out.TheVariants.{Zero, One, Place}
use Rattle.op_basis.specs.Closed.{operator_of, swapped, const_closed, has_negation, is_allowed, left_on_first}
use Rattle.op_basis.specs.Closed.{left_on_second, right_on_first, right_on_second, reapplies, reapplies_all}
use Rattle.op_basis.specs.Closed.{reapply_closed, every}
use Rattle.op_basis.specs.Laws.{operator_values, operator_low, every_each}
use Rattle.chain_laws.specs.Keys.{larger}
use Rattle.chain_laws.specs.NormalForm.{IsCopy, IsConstant, Reads, IsReapplication}
use Rattle.chain_laws.specs.Bodies.{Body, Fits, bits_of, step_bit}
use Rattle.chain_laws.specs.Operators.{value_by, swapped_value, swapped_low, two_values, implied, negation_from, HasNegation}
use Rattle.chain_laws.specs.Shorter.{HasFewer, redirected}
use Rattle.chain_laws.specs.Replaced.{replaced_lower}
use Rattle.chain_laws.specs.Ranks.{rank}
use Rattle.chain_laws.specs.Decidable.{IsLower}

-- ---- what closure under re-application gives

-- an operator of two places that is a signal, or one step
abbrev IsAllowed : Basis → ℕ → Type 0
IsAllowed basis g = ((basis g ≡ true) ⊎ (basis (swapped g) ≡ true)) ⊎
    (IsCopy g ⊎ ((IsConstant g × (const_closed basis ≡ true)) ⊎
    (((g ≡ operator_of (λ x y. not x)) ⊎ (g ≡ operator_of (λ x y. not y))) × HasNegation basis)))

either : (g x y : ℕ) → (g == x || g == y) ≡ true → (g ≡ x) ⊎ (g ≡ y)
either g x y is = elim (or_cases (g == x) (g == y) is) [ inl at_x ↦ inl (eqb-true g x at_x) | inr at_y ↦ inr (eqb-true g y at_y) ]

allowed : (basis : Basis) (g : ℕ) → is_allowed basis g ≡ true → IsAllowed basis g
unfolding is_allowed
allowed basis g is =
    let copy : Bool = g == operator_of (λ a b. a) || g == operator_of (λ a b. b) in
    let constant : Bool = g == operator_of (λ a b. false) || g == operator_of (λ a b. true) in
    let negation : Bool = g == operator_of (λ a b. not a) || g == operator_of (λ a b. not b) in
    let member : Bool = basis g || basis (swapped g) in
    elim (or_cases ((member || copy) || (constant && const_closed basis)) (negation && has_negation basis) is) [
      | inl prefix ↦ elim (or_cases (member || copy) (constant && const_closed basis) prefix) [
        | inl first ↦ elim (or_cases member copy first) [
          | inl is_member ↦ inl (or_cases (basis g) (basis (swapped g)) is_member)
          | inr is_copy ↦ inr (inl (either g (operator_of (λ a b. a)) (operator_of (λ a b. b)) is_copy))
        ]
        | inr second ↦ let parts = and_parts constant (const_closed basis) second in
            inr (inr (inl (either g (operator_of (λ a b. false)) (operator_of (λ a b. true)) parts.0, parts.1)))
      ]
      | inr last ↦ let parts = and_parts negation (has_negation basis) last in
          inr (inr (inr (either g (operator_of (λ a b. not a)) (operator_of (λ a b. not b)) parts.0, negation_from basis parts.1)))
    ]

-- q applied to p's value and one of p's operands is allowed, in all four ways
record AreAllowed (basis : Basis) (p q : ℕ) : Type 0 where
  left_first : IsAllowed basis (left_on_first p q)
  left_second : IsAllowed basis (left_on_second p q)
  right_first : IsAllowed basis (right_on_first p q)
  right_second : IsAllowed basis (right_on_second p q)

all_allowed : (basis : Basis) → reapply_closed basis ≡ true → (p q : ℕ) → p < 16 → q < 16 → basis p ≡ true → basis q ≡ true → AreAllowed basis p q
unfolding reapplies_all reapplies
all_allowed basis closed p q p_low q_low p_in q_in =
    let of_p : every (reapplies basis p) ≡ true = implied (basis p) (every (reapplies basis p)) (every_each (reapplies_all basis) closed p p_low) p_in in
    let a : Bool = is_allowed basis (left_on_first p q) in
    let b : Bool = is_allowed basis (left_on_second p q) in
    let c : Bool = is_allowed basis (right_on_first p q) in
    let d : Bool = is_allowed basis (right_on_second p q) in
    let of_q : (a && b && c && d) ≡ true = implied (basis q) (a && b && c && d) (every_each (reapplies basis p) of_p q q_low) q_in in
    let last = and_parts (a && b && c) d of_q in
    let third = and_parts (a && b) c last.0 in
    let first = and_parts a b third.0 in
    record {
      left_first = allowed basis (left_on_first p q) first.0;
      left_second = allowed basis (left_on_second p q) first.1;
      right_first = allowed basis (right_on_first p q) third.1;
      right_second = allowed basis (right_on_second p q) last.1;
    }

-- ---- chains

-- A step that computes an allowed operator of two lower places can be left out, or can read these
-- places instead, and the keys decrease.
comes_down : (s : Specification) (basis : Basis) (r d : ℕ) (b : Body) (fits : Fits s basis r d b) (k : ℕ) → k < r →
    (x y g : ℕ) → 1 ≤ x → 1 ≤ y → x < larger (b.step k) → y < larger (b.step k) →
    fits.height x < fits.height (s.inputs + 1 + k) → fits.height y < fits.height (s.inputs + 1 + k) → g < 16 →
    ((t : ℕ) → step_value (bits_of s.inputs r b.step t) (b.step k) ≡
    apply g (bits_of s.inputs r b.step t x) (bits_of s.inputs r b.step t y)) → IsAllowed basis g → HasFewer s basis r ⊎
    IsLower (Fits s basis r d) (λ z. rank (s.inputs + r + 1) r z.step) b
comes_down s basis r d b fits k low x y g x_from y_from x_low y_low x_height y_height g_low same is =
    let n : ℕ = s.inputs in
    let place : ℕ = n + 1 + k in
    let bits : ℕ → ℕ → Bool = bits_of n r b.step in
    let own : IsStepAt place (b.step k) = fits.below k low in
    let x_below : x < place = omega (arith, own.j_below, own.k_below) in
    let y_below : y < place = omega (arith, own.j_below, own.k_below) in
    elim is [
      | inl (inl member) ↦ inr (replaced_lower s basis r d b fits k low (record { j = x; k = y; op = g })
          (record { j_from = x_from; j_below = x_below; k_from = y_from; k_below = y_below; op_below = g_low }) member
          x_height y_height (λ t. sym (same t)) (inl (omega arith)))
      | inl (inr member) ↦ inr (replaced_lower s basis r d b fits k low (record { j = y; k = x; op = swapped g })
          (record { j_from = y_from; j_below = y_below; k_from = x_from; k_below = x_below; op_below = swapped_low g })
          member y_height x_height (λ t. swapped_value g (bits t x) (bits t y) ∙ sym (same t)) (inl (omega arith)))
      | inr (inl (inl first)) ↦ inl (redirected s basis r d b fits k low (Place x) (x_from, omega arith) (λ t. same t ∙ value_by g (λ p q. p) first (bits t x) (bits t y)))
      | inr (inl (inr second)) ↦ inl (redirected s basis r d b fits k low (Place y) (y_from, omega arith) (λ t. same t ∙ value_by g (λ p q. q) second (bits t x) (bits t y)))
      | inr (inr (inl (inl never, closed))) ↦ inl (redirected s basis r d b fits k low Zero closed (λ t. same t ∙ value_by g (λ p q. false) never (bits t x) (bits t y)))
      | inr (inr (inl (inr always, closed))) ↦ inl (redirected s basis r d b fits k low One closed (λ t. same t ∙ value_by g (λ p q. true) always (bits t x) (bits t y)))
      | inr (inr (inr (inl of_x, m))) ↦ inr (replaced_lower s basis r d b fits k low (record {
        j = x;
        k = x;
        op = m.0;
      }) (record {
        j_from = x_from;
        j_below = x_below;
        k_from = x_from;
        k_below = x_below;
        op_below =
            m.1;
      }) m.2 x_height x_height
          (λ t. two_values (λ z. apply m.0 z z) (λ z. not z) m.3.0 m.3.1 (bits t x) ∙ sym (same t ∙ value_by g (λ p q. not p) of_x (bits t x) (bits t y))) (inl (omega arith)))
      | inr (inr (inr (inr of_y, m))) ↦ inr (replaced_lower s basis r d b fits k low (record {
        j = y;
        k = y;
        op = m.0;
      }) (record {
        j_from = y_from;
        j_below = y_below;
        k_from = y_from;
        k_below = y_below;
        op_below =
            m.1;
      }) m.2 y_height y_height
          (λ t. two_values (λ z. apply m.0 z z) (λ z. not z) m.3.0 m.3.1 (bits t y) ∙ sym (same t ∙ value_by g (λ p q. not q) of_y (bits t x) (bits t y))) (inl (omega arith)))
    ]

step_by : (bits : ℕ → Bool) (c : Step) (u v : Bool) → bits c.j ≡ u → bits c.k ≡ v → step_value bits c ≡ apply c.op u v
step_by bits c u v eu ev = ap (λ (w : Bool). apply c.op w (bits c.k)) eu ∙ ap (λ (w : Bool). apply c.op u w) ev

first_of_left : (p q : ℕ) (x y : Bool) → (apply q (apply p x y) x ≡ apply (left_on_first p q) x y) × (left_on_first p q < 16)
unfolding left_on_first
first_of_left p q x y = (sym (operator_values (λ a b. apply q (apply p a b) a) x y), operator_low (λ a b. apply q (apply p a b) a))

second_of_left : (p q : ℕ) (x y : Bool) → (apply q (apply p x y) y ≡ apply (left_on_second p q) x y) × (left_on_second p q < 16)
unfolding left_on_second
second_of_left p q x y = (sym (operator_values (λ a b. apply q (apply p a b) b) x y), operator_low (λ a b. apply q (apply p a b) b))

first_of_right : (p q : ℕ) (x y : Bool) → (apply q x (apply p x y) ≡ apply (right_on_first p q) x y) × (right_on_first p q < 16)
unfolding right_on_first
first_of_right p q x y = (sym (operator_values (λ a b. apply q a (apply p a b)) x y), operator_low (λ a b. apply q a (apply p a b)))

second_of_right : (p q : ℕ) (x y : Bool) → (apply q y (apply p x y) ≡ apply (right_on_second p q) x y) × (right_on_second p q < 16)
unfolding right_on_second
second_of_right p q x y = (sym (operator_values (λ a b. apply q b (apply p a b)) x y), operator_low (λ a b. apply q b (apply p a b)))

-- Over a basis closed under re-application, a re-application can be left out, or the keys decrease.
pub again_goes : (s : Specification) (basis : Basis) (r d : ℕ) (b : Body) → Fits s basis r d b →
    reapply_closed basis ≡ true → (i k : ℕ) → i < k → k < r →
    IsReapplication (s.inputs + 1 + i) (b.step i) (b.step k) → HasFewer s basis r ⊎
    IsLower (Fits s basis r d) (λ z. rank (s.inputs + r + 1) r z.step) b
again_goes s basis r d b fits closed i k before low again =
    let n : ℕ = s.inputs in
    let place : ℕ = n + 1 + i in
    let a : Step = b.step i in
    let c : Step = b.step k in
    let p : ℕ = a.op in
    let q : ℕ = c.op in
    let bits : ℕ → ℕ → Bool = bits_of n r b.step in
    let inside : i < r = omega arith in
    let is : IsStepAt place a = fits.below i inside in
    let is_c : IsStepAt (n + 1 + k) c = fits.below k low in
    let all : AreAllowed basis p q = all_allowed basis closed p q is.op_below is_c.op_below (fits.over i inside) (fits.over k low) in
    let own : (t : ℕ) → bits t place ≡ apply p (bits t a.j) (bits t a.k) = λ t. step_bit n r b.step fits.below t i inside in
    let down : Reads c place → (g : ℕ) → g < 16 →
    ((t : ℕ) → step_value (bits t) c ≡ apply g (bits t a.j) (bits t a.k)) → IsAllowed basis g → HasFewer s basis r ⊎
    IsLower (Fits s basis r d) (λ z. rank (n + r + 1) r z.step) b = λ reads g g_low same ok.
    let above : place ≤ larger c = ⊎_elim (λ (e : c.j ≡ place). omega arith) (λ (e : c.k ≡ place). omega arith) reads in
    let higher : fits.height place < fits.height (n + 1 + k) = ⊎_elim
    (λ (e : c.j ≡ place). subst (λ (x : ℕ). fits.height x < fits.height (n + 1 + k)) e (fits.rises k low).0)
    (λ (e : c.k ≡ place). subst (λ (x : ℕ). fits.height x < fits.height (n + 1 + k)) e (fits.rises k low).1)
    reads in
    let lower = fits.rises i inside in
    comes_down s basis r d b fits k low a.j a.k g is.j_from is.k_from (omega (arith, is.j_below)) (omega (arith, is.k_below)) (omega (arith, lower.0)) (omega (arith, lower.1)) g_low same ok in
    elim again [
      | inl (at_j, inl e) ↦ down (inl at_j) (left_on_first p q) (first_of_left p q true true).1
          (λ t. step_by (bits t) c (apply p (bits t a.j) (bits t a.k)) (bits t a.j) (ap (bits t) at_j ∙ own t) (ap (bits t) (sym e)) ∙ (first_of_left p q (bits t a.j) (bits t a.k)).0)
          all.left_first
      | inl (at_j, inr e) ↦ down (inl at_j) (left_on_second p q) (second_of_left p q true true).1
          (λ t. step_by (bits t) c (apply p (bits t a.j) (bits t a.k)) (bits t a.k) (ap (bits t) at_j ∙ own t) (ap (bits t) (sym e)) ∙ (second_of_left p q (bits t a.j) (bits t a.k)).0)
          all.left_second
      | inr (at_k, inl e) ↦ down (inr at_k) (right_on_first p q) (first_of_right p q true true).1
          (λ t. step_by (bits t) c (bits t a.j) (apply p (bits t a.j) (bits t a.k)) (ap (bits t) (sym e)) (ap (bits t) at_k ∙ own t) ∙ (first_of_right p q (bits t a.j) (bits t a.k)).0)
          all.right_first
      | inr (at_k, inr e) ↦ down (inr at_k) (right_on_second p q) (second_of_right p q true true).1
          (λ t. step_by (bits t) c (bits t a.k) (apply p (bits t a.j) (bits t a.k)) (ap (bits t) (sym e)) (ap (bits t) at_k ∙ own t) ∙ (second_of_right p q (bits t a.j) (bits t a.k)).0)
          all.right_second
    ]
