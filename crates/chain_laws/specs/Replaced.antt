-- A step is replaced by another one with the same value.
use Rattle.std.proofs.Common.{◌≡◌, ℕ, ◌+◌, ◌-◌, ◌≤◌, ◌<◌, true, refl, sym, ap, ◌∙◌, arith, ⊎_elim, subst}
use Rattle.std.specs.Prelude.{slice_index_or}
use Rattle.std.proofs.lemmas.Bool.{cases_eq}
use Rattle.chain_theory.specs.Operator.{Basis}
use Rattle.chain_theory.specs.Specification.{Specification}
use Rattle.chain_theory.specs.Agreement.{is_met}
use Rattle.chain_theory.specs.Chain.{Step, IsStepAt}
use Rattle.chain_theory.specs.Value.{step_value}
use Rattle.chain_theory.specs.declared.data.Out.{Out}
use Rattle.chain_theory.specs.declared.data.Out.TheVariants.{Zero}
use Rattle.chain_laws.specs.Follow.{with_own, own_has, other_has}
use Rattle.chain_laws.specs.Keys.{ComesBefore}
use Rattle.chain_laws.specs.Ranks.{key, rank, rank_less}
use Rattle.chain_laws.specs.Decidable.{IsLower}
use Rattle.chain_laws.specs.Bodies.{Body, Fits, AreBelow, bits_of, bits_are, step_bit, input_bit, same_out, out_named}

-- other steps with the same values
pub record IsSame (s : Specification) (basis : Basis) (r d : ℕ) (b : Body) (fits : Fits s basis r d b) (step : ℕ → Step) : Type 0 where
  pub below : AreBelow s.inputs r step
  pub over : (k : ℕ) → k < r → basis (step k).op ≡ true
  pub rises : (k : ℕ) → k < r → (fits.height (step k).j < fits.height (s.inputs + 1 + k)) × (fits.height (step k).k < fits.height (s.inputs + 1 + k))
  pub same : (t k : ℕ) → k < r → step_value (bits_of s.inputs r b.step t) (step k) ≡ step_value (bits_of s.inputs r b.step t) (b.step k)

pub same_bits : (s : Specification) (basis : Basis) (r d : ℕ) (b : Body) (fits : Fits s basis r d b) (step : ℕ →
    Step) → IsSame s basis r d b fits step → (t p : ℕ) → 1 ≤ p → p < s.inputs + 1 + r →
    bits_of s.inputs r step t p ≡ bits_of s.inputs r b.step t p
same_bits s basis r d b fits step is t =
    bits_are s.inputs r step is.below t (bits_of s.inputs r b.step t)
    (λ p from low. input_bit s.inputs r b.step t p low)
    (λ k low. step_bit s.inputs r b.step fits.below t k low ∙ sym (is.same t k low))

-- A chain whose steps have the same values agrees too.
pub same_fits : (s : Specification) (basis : Basis) (r d : ℕ) (b : Body) (fits : Fits s basis r d b) (step : ℕ →
    Step) → IsSame s basis r d b fits step → Fits s basis r d (record { step = step; outs = b.outs })
same_fits s basis r d b fits step is = record {
  below = is.below;
  over = is.over;
  height = fits.height;
  rises = is.rises;
  low = fits.low;
  outs = fits.outs;
  count = fits.count;
  cells = λ h t from low row.
      let o : Out = slice_index_or b.outs (h - 1) Zero in
      ap (is_met (s.cell h t)) (same_out (s.inputs + r) (bits_of s.inputs r step t) (bits_of s.inputs r b.step t)
      (λ p p_from p_low. same_bits s basis r d b fits step is t p p_from (omega arith)) o (out_named (s.inputs + r) h s.outputs b.outs fits.count from low fits.outs))
      ∙ fits.cells h t from low row;
}

-- A step may be replaced by another one with the same value whose operands' heights are lower;
pub replaced : (s : Specification) (basis : Basis) (r d : ℕ) (b : Body) (fits : Fits s basis r d b) (i : ℕ) → i < r →
    (u : Step) → IsStepAt (s.inputs + 1 + i) u → basis u.op ≡ true → fits.height u.j < fits.height (s.inputs + 1 + i) →
    fits.height u.k < fits.height (s.inputs + 1 + i) →
    ((t : ℕ) → step_value (bits_of s.inputs r b.step t) u ≡ step_value (bits_of s.inputs r b.step t) (b.step i)) →
    Fits s basis r d (record { step = with_own b.step i u; outs = b.outs })
replaced s basis r d b fits i low u below over j_lower k_lower same =
    let n : ℕ = s.inputs in
    let Good : ℕ → Step → Type 0 = λ k a. IsStepAt (n + 1 + k) a × (basis a.op ≡ true) ×
    ((fits.height a.j < fits.height (n + 1 + k)) × (fits.height a.k < fits.height (n + 1 + k))) ×
    ((t : ℕ) → step_value (bits_of n r b.step t) a ≡ step_value (bits_of n r b.step t) (b.step k)) in
    let each : (k : ℕ) → k < r → Good k (with_own b.step i u k) = λ k k_low. ⊎_elim
    (λ (here : k ≡ i). subst (Good k) (sym (own_has b.step i k u here)) (subst (λ (x : ℕ). Good x u) (sym here) (below, over, (j_lower, k_lower), same)))
    (λ (other : k ≡ i → ⊥). subst (Good k) (sym (other_has b.step i k u other)) (fits.below k k_low, fits.over k k_low, fits.rises k k_low, (λ t. refl)))
    (cases_eq k i) in
    same_fits s basis r d b fits (with_own b.step i u) (record {
      below = λ k k_low. (each k k_low).0;
      over = λ k k_low. (each k k_low).1;
      rises = λ k k_low. (each k k_low).2;
      same = λ t k k_low. (each k k_low).3 t;
    })

-- the keys decrease where the new pair comes before the old one.
pub replaced_lower : (s : Specification) (basis : Basis) (r d : ℕ) (b : Body) (fits : Fits s basis r d b) (i : ℕ) →
    i < r → (u : Step) → IsStepAt (s.inputs + 1 + i) u → basis u.op ≡ true →
    fits.height u.j < fits.height (s.inputs + 1 + i) → fits.height u.k < fits.height (s.inputs + 1 + i) →
    ((t : ℕ) → step_value (bits_of s.inputs r b.step t) u ≡ step_value (bits_of s.inputs r b.step t) (b.step i)) →
    ComesBefore u (b.step i) → IsLower (Fits s basis r d) (λ x. rank (s.inputs + r + 1) r x.step) b
replaced_lower s basis r d b fits i low u below over j_lower k_lower same before =
    let new = replaced s basis r d b fits i low u below over j_lower k_lower same in
    record {
      at = record { step = with_own b.step i u; outs = b.outs };
      kept = new;
      lower = rank_less (s.inputs + r + 1) r (with_own b.step i u) b.step i low
          (λ k k_low. let is = new.below k k_low in (omega (arith, is.j_below), omega (arith, is.k_below)))
          (λ k k_low. ap (key (s.inputs + r + 1)) (other_has b.step i k u (λ e. omega arith)))
          (subst (λ (x : Step). ComesBefore x (b.step i)) (sym (own_has b.step i i u refl)) before);
    }
