-- A chain for a table with an NPN symmetry: two inputs are exchanged in its pairs, and operators are adapted to the
-- complements.
use Rattle.std.proofs.Common.{◌≡◌, ℕ, ◌+◌, ◌-◌, ◌^◌, ◌≤◌, ◌<◌, Bool, true, List, length, refl, sym, ap, ◌∙◌, arith, ⊎_elim, subst}
use Rattle.std.specs.Prelude.{slice_index_or}
use Rattle.std.proofs.lemmas.Bool.{cases_lt}
use Rattle.chain_theory.specs.Operator.{apply, Basis}
use Rattle.chain_theory.specs.Specification.{Specification, input}
use Rattle.chain_theory.specs.Agreement.{is_met}
use Rattle.chain_theory.specs.Chain.{Step, NamesPlace}
use Rattle.chain_theory.specs.declared.data.Out.{Out}
use Rattle.chain_theory.specs.declared.data.Out.TheVariants.{Zero, One, Place}
use Rattle.op_basis.specs.Closed.{polarity_closed}
use Rattle.tt_core.specs.Symmetry.{renamed}
use Rattle.chain_laws.specs.Bodies.{Body, Fits, AreBelow, bits_of, bits_are, step_bit, input_bit, out_bit, out_named}
use Rattle.chain_laws.specs.Moved.{moved}
use Rattle.chain_laws.specs.Renamed.{renamed_other, renamed_back, renamed_from, renamed_low, moved_below}
use Rattle.chain_laws.specs.Complemented.{flip, flip_twice, IsMember, flipped_member, complemented}
use Rattle.npn_laws.specs.Exchange.{image, IsKept, image_low, image_partner, met_complemented}

-- a chain with inputs p and q exchanged, and the places complemented whose flags are set
abbrev pub transformed : ℕ → ℕ → ℕ → (ℕ → Bool) → (ℕ → Step) → ℕ → Step
transformed n p q on step i = complemented on (n + 1 + i) (moved (renamed p q) (step i))

abbrev pub transformed_body : ℕ → ℕ → ℕ → (ℕ → Bool) → Body → Body
transformed_body n p q on b = record { step = transformed n p q on b.step; outs = b.outs }

-- The flags of places: an input's is the bit of its exchanged partner on row k; and a step that drives an output has
-- the flag of outputs.
pub record AreFlags (n p q k : ℕ) (b : Bool) (outs : List Out) (on : ℕ → Bool) : Type 0 where
  pub of_input : (x : ℕ) → 1 ≤ x → x ≤ n → on x ≡ input n k (renamed p q x)
  pub of_out : (h x : ℕ) → h < length outs → slice_index_or outs h Zero ≡ Place x → n < x → on x ≡ b

module _ (s : Specification) (basis : Basis) (r d : ℕ) (b : Body) (fits : Fits s basis r d b) (closed : polarity_closed basis ≡ true)
    (p q : ℕ) (p_from : 1 ≤ p) (less : p < q) (q_low : q ≤ s.inputs) (on : ℕ → Bool) where
  member : (i : ℕ) → i < r → IsMember basis
      (λ x y. flip (on (s.inputs + 1 + i)) (apply (b.step i).op (flip (on (renamed p q (b.step i).j)) x) (flip (on (renamed p q (b.step i).k)) y)))
      (transformed s.inputs p q on b.step i).op
  member i low = flipped_member basis closed (b.step i).op (fits.below i low).op_below (fits.over i low)
      (on (renamed p q (b.step i).j)) (on (renamed p q (b.step i).k)) (on (s.inputs + 1 + i))

  below : AreBelow s.inputs r (transformed s.inputs p q on b.step)
  below i low =
      let f : ℕ → ℕ = renamed p q in
      let is = moved_below f (s.inputs + 1 + i) (s.inputs + 1 + i) (b.step i) (fits.below i low) (λ x reads x_from x_low.
      (renamed_from p q x p_from (omega arith) x_from, omega (arith, renamed_low p q x (s.inputs + i) (omega arith) (omega arith) (omega arith)))) in
      record { j_from = is.j_from; j_below = is.j_below; k_from = is.k_from; k_below = is.k_below; op_below = (member i low).0 }

  -- Values are those on the image of the row, under the exchanged names, complemented where the flags are set.
  bits : (k : ℕ) → ((x : ℕ) → 1 ≤ x → x ≤ s.inputs → on x ≡ input s.inputs k (renamed p q x)) → (t x : ℕ) → 1 ≤ x →
      x < s.inputs + 1 + r → bits_of s.inputs r (transformed s.inputs p q on b.step) t x ≡
      flip (on x) (bits_of s.inputs r b.step (image s.inputs p q k t) (renamed p q x))
  bits k of_input t =
      let n : ℕ = s.inputs in
      let f : ℕ → ℕ = renamed p q in
      let old : ℕ → Bool = bits_of n r b.step (image n p q k t) in
      bits_are n r (transformed n p q on b.step) below t (λ x. flip (on x) (old (f x)))
      (λ x from low.
      ap (flip (on x)) (input_bit n r b.step (image n p q k t) (f x) (renamed_low p q x n (omega arith) q_low low)
      ∙ image_partner n p q k t x p_from (omega arith) (omega arith) q_low from low
      ∙ ap (λ (c : Bool). flip c (input n t x)) (sym (of_input x from low)))
      ∙ flip_twice (on x) (input n t x))
      (λ i low.
      let a : Step = b.step i in
      let own : Bool = on (n + 1 + i) in
      let first : Bool = on (f a.j) in
      let second : Bool = on (f a.k) in
      ap (flip own) (ap old (renamed_other p q (n + 1 + i) (λ e. omega arith) (λ e. omega arith))
      ∙ step_bit n r b.step fits.below (image n p q k t) i low)
      ∙ sym ((member i low).2 (flip first (old (f (f a.j)))) (flip second (old (f (f a.k))))
      ∙ ap (λ (x : Bool). flip own (apply a.op x (flip second (flip second (old (f (f a.k)))))))
      (flip_twice first (old (f (f a.j))) ∙ ap old (renamed_back p q a.j))
      ∙ ap (λ (x : Bool). flip own (apply a.op (old a.j) x)) (flip_twice second (old (f (f a.k))) ∙ ap old (renamed_back p q a.k))))

  -- Trivial outs stay as they are; the others have the bit on the image of the row, complemented where outputs are.
  met : (k : ℕ) (c : Bool) → IsKept s p q k c → AreFlags s.inputs p q k c b.outs on → (h t : ℕ) → 1 ≤ h → h ≤ s.outputs →
      t < 2 ^ s.inputs → (o : Out) → slice_index_or b.outs (h - 1) Zero ≡ o → NamesPlace (s.inputs + r) o →
      is_met (s.cell h t) (out_bit (bits_of s.inputs r (transformed s.inputs p q on b.step) t) o) ≡ true
  met k c kept flags h t from low row Zero e names =
      subst (λ (x : Out). is_met (s.cell h t) (out_bit (bits_of s.inputs r b.step t) x) ≡ true) e (fits.cells h t from low row)
  met k c kept flags h t from low row One e names =
      subst (λ (x : Out). is_met (s.cell h t) (out_bit (bits_of s.inputs r b.step t) x) ≡ true) e (fits.cells h t from low row)
  met k c kept flags h t from low row (Place x) e names =
      let n : ℕ = s.inputs in
      let new : ℕ → Bool = bits_of n r (transformed n p q on b.step) t in
      let image_row : ℕ = image n p q k t in
      let old_met : (u : ℕ) → u < 2 ^ n → is_met (s.cell h u) (bits_of n r b.step u x) ≡ true = λ u u_low.
      subst (λ (y : Out). is_met (s.cell h u) (out_bit (bits_of n r b.step u) y) ≡ true) e (fits.cells h u from low u_low) in
      ⊎_elim
      (λ (is_input : x < n + 1).
      ap (is_met (s.cell h t)) (input_bit n r (transformed n p q on b.step) t x (omega arith) ∙ sym (input_bit n r b.step t x (omega arith)))
      ∙ old_met t row)
      (λ (is_step : n + 1 ≤ x).
      let own : on x ≡ c = flags.of_out (h - 1) x (omega (arith, fits.count)) e (omega arith) in
      let same : renamed p q x ≡ x = renamed_other p q x (λ y. omega arith) (λ y. omega arith) in
      ap (is_met (s.cell h t)) (bits k flags.of_input t x names.0 (omega (arith, names.1))
      ∙ ap (λ (y : Bool). flip y (bits_of n r b.step image_row (renamed p q x))) own
      ∙ ap (λ (y : ℕ). flip c (bits_of n r b.step image_row y)) same)
      ∙ met_complemented c (s.cell h t) (bits_of n r b.step image_row x)
      ∙ ap (λ y. is_met y (bits_of n r b.step image_row x)) (sym (kept h t from low row))
      ∙ old_met image_row (image_low n p q k t))
      (cases_lt x (n + 1))

  -- A chain with inputs exchanged that are NPN-symmetric agrees too.
  pub transformed_fits : (k : ℕ) (c : Bool) → IsKept s p q k c → AreFlags s.inputs p q k c b.outs on →
      Fits s basis r d (transformed_body s.inputs p q on b)
  transformed_fits k c kept flags =
      let n : ℕ = s.inputs in
      let f : ℕ → ℕ = renamed p q in
      let own : (i : ℕ) → fits.height (f (n + 1 + i)) ≡ fits.height (n + 1 + i) =
      λ i. ap fits.height (renamed_other p q (n + 1 + i) (λ e. omega arith) (λ e. omega arith)) in
      let there : (x : ℕ) → fits.height (f (f x)) ≡ fits.height x = λ x. ap fits.height (renamed_back p q x) in
      record {
        below = below;
        over = λ i low. (member i low).1;
        height = λ x. fits.height (f x);
        rises = λ i low. let up = fits.rises i low in (omega (arith, up.0, own i, there (b.step i).j), omega (arith, up.1, own i, there (b.step i).k));
        low = λ i low. omega (arith, own i, fits.low i low);
        outs = fits.outs;
        count = fits.count;
        cells = λ h t from low row. met k c kept flags h t from low row (slice_index_or b.outs (h - 1) Zero) refl
            (out_named (n + r) h s.outputs b.outs fits.count from low fits.outs);
      }
