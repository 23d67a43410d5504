-- Operators on places and constants: the result is a place, a constant, or one step.
use Rattle.std.proofs.Common.{◌≡◌, ℕ, ◌+◌, ◌≤◌, ◌<◌, Bool, true, false, refl, sym, ◌∙◌, arith, inl, inr, ◌⊎◌}
use Rattle.std.proofs.lemmas.Grind.{common_steps}
use Rattle.chain_theory.specs.Operator.{apply, Basis}
use Rattle.chain_theory.specs.Chain.{Step, IsStepAt}
use Rattle.chain_theory.specs.Value.{step_value}
use Rattle.chain_theory.specs.declared.data.Out.{Out}
use Rattle.chain_theory.specs.declared.data.Out.TheVariants.{Zero, One, Place}
use Rattle.op_basis.specs.Closed.{const_closed, negates_one}
use Rattle.chain_laws.specs.Bodies.{out_bit}
use Rattle.chain_laws.specs.Operators.{two_values, HasNegation, negation_given}

-- ---- operators on signals

-- a signal: one of the places up to the last, or a constant, if constants can be left out
abbrev pub IsSignal : Basis → ℕ → Out → Type 0
IsSignal basis last Zero = const_closed basis ≡ true
IsSignal basis last One = const_closed basis ≡ true
IsSignal basis last (Place p) = (1 ≤ p) × (p ≤ last)

-- some signal has the given value, whatever the bits of the places are
pub record IsThere (basis : Basis) (last : ℕ) (value : (ℕ → Bool) → Bool) : Type 0 where
  pub out : Out
  pub signal : IsSignal basis last out
  pub same : (bits : ℕ → Bool) → out_bit bits out ≡ value bits

-- one step after the last place has the given value, whatever the bits of the places are
pub record IsOneStep (basis : Basis) (last : ℕ) (value : (ℕ → Bool) → Bool) : Type 0 where
  pub step : Step
  pub below : IsStepAt (last + 1) step
  pub over : basis step.op ≡ true
  pub same : (bits : ℕ → Bool) → step_value bits step ≡ value bits

abbrev pub IsSignalOrStep : Basis → ℕ → ((ℕ → Bool) → Bool) → Type 0
IsSignalOrStep basis last value = IsThere basis last value ⊎ IsOneStep basis last value

-- ---- one operand is a constant

of_one_by : (basis : Basis) (last q : ℕ) → const_closed basis ≡ true → 1 ≤ q → q ≤ last →
    (f : Bool → Bool) (at_0 at_1 : Bool) → f false ≡ at_0 → f true ≡ at_1 →
    (at_0 ≡ true → at_1 ≡ false → HasNegation basis) → IsSignalOrStep basis last (λ bits. f (bits q))
of_one_by basis last q closed from low f false false e0 e1 negation = inl (record { out = Zero; signal = closed; same = λ bits. two_values (λ b. false) f (sym e0) (sym e1) (bits q) })
of_one_by basis last q closed from low f true true e0 e1 negation = inl (record { out = One; signal = closed; same = λ bits. two_values (λ b. true) f (sym e0) (sym e1) (bits q) })
of_one_by basis last q closed from low f false true e0 e1 negation = inl (record { out = Place q; signal = (from, low); same = λ bits. two_values (λ b. b) f (sym e0) (sym e1) (bits q) })
of_one_by basis last q closed from low f true false e0 e1 negation =
    let m : HasNegation basis = negation refl refl in
    inr (record {
      step = record { j = q; k = q; op = m.0 };
      below = record { j_from = from; j_below = omega arith; k_from = from; k_below = omega arith; op_below = m.1 };
      over = m.2;
      same = λ bits. two_values (λ b. apply m.0 b b) f (m.3.0 ∙ sym e0) (m.3.1 ∙ sym e1) (bits q);
    })

of_one : (basis : Basis) (last q : ℕ) → const_closed basis ≡ true → 1 ≤ q → q ≤ last → (f : Bool → Bool) →
    (f false ≡ true → f true ≡ false → HasNegation basis) → IsSignalOrStep basis last (λ bits. f (bits q))
of_one basis last q closed from low f negation = of_one_by basis last q closed from low f (f false) (f true) refl refl negation

negates_second : (op : ℕ) (x : Bool) → apply op x false ≡ true → apply op x true ≡ false → negates_one op ≡ true
unfolding negates_one
negates_second op false e0 e1 = grind (arith, common_steps)
negates_second op true e0 e1 = grind (arith, common_steps)

negates_first : (op : ℕ) (y : Bool) → apply op false y ≡ true → apply op true y ≡ false → negates_one op ≡ true
unfolding negates_one
negates_first op false e0 e1 = grind (arith, common_steps)
negates_first op true e0 e1 = grind (arith, common_steps)

constant : (basis : Basis) (last : ℕ) → const_closed basis ≡ true → (b : Bool) → IsThere basis last (λ bits. b)
constant basis last closed false = record { out = Zero; signal = closed; same = λ bits. refl }
constant basis last closed true = record { out = One; signal = closed; same = λ bits. refl }

second_constant : (basis : Basis) (last : ℕ) → const_closed basis ≡ true → (op : ℕ) → op < 16 → basis op ≡ true →
    (p : ℕ) → 1 ≤ p → p ≤ last → (y : Bool) → IsSignalOrStep basis last (λ bits. apply op (bits p) y)
second_constant basis last closed op low member p from below y =
    of_one basis last p closed from below (λ x. apply op x y) (λ e0 e1.
    negation_given basis closed op low member (negates_first op y e0 e1))

first_constant : (basis : Basis) (last : ℕ) → const_closed basis ≡ true → (op : ℕ) → op < 16 → basis op ≡ true →
    (p : ℕ) → 1 ≤ p → p ≤ last → (x : Bool) → IsSignalOrStep basis last (λ bits. apply op x (bits p))
first_constant basis last closed op low member p from below x =
    of_one basis last p closed from below (λ y. apply op x y) (λ e0 e1.
    negation_given basis closed op low member (negates_second op x e0 e1))

-- A member applied to two signals is a signal or one step.
pub joined : (basis : Basis) (last op : ℕ) → op < 16 → basis op ≡ true → (a b : Out) → IsSignal basis last a →
    IsSignal basis last b → IsSignalOrStep basis last (λ bits. apply op (out_bit bits a) (out_bit bits b))
joined basis last op low member Zero Zero a_is b_is = inl (constant basis last a_is (apply op false false))
joined basis last op low member Zero One a_is b_is = inl (constant basis last a_is (apply op false true))
joined basis last op low member One Zero a_is b_is = inl (constant basis last a_is (apply op true false))
joined basis last op low member One One a_is b_is = inl (constant basis last a_is (apply op true true))
joined basis last op low member Zero (Place q) a_is b_is = first_constant basis last a_is op low member q b_is.0 b_is.1 false
joined basis last op low member One (Place q) a_is b_is = first_constant basis last a_is op low member q b_is.0 b_is.1 true
joined basis last op low member (Place p) Zero a_is b_is = second_constant basis last b_is op low member p a_is.0 a_is.1 false
joined basis last op low member (Place p) One a_is b_is = second_constant basis last b_is op low member p a_is.0 a_is.1 true
joined basis last op low member (Place p) (Place q) a_is b_is = inr (record {
  step = record { j = p; k = q; op = op };
  below = record { j_from = a_is.0; j_below = omega arith; k_from = b_is.0; k_below = omega arith; op_below = low };
  over = member;
  same = λ bits. refl;
})
