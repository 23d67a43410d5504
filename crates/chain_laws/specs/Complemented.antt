-- Some steps are complemented, and the operators of the steps that read them are adapted.
use Rattle.std.proofs.Common.{◌≡◌, ℕ, ◌+◌, ◌-◌, ◌≤◌, ◌<◌, Bool, true, false, not, ◌&&◌, length, refl, sym, ap, ◌∙◌, arith, inl, inr, ⊎_elim, ◌⊎◌}
use Rattle.std.specs.Prelude.{slice_index_or, if◌then◌else◌}
use Rattle.std.proofs.lemmas.Bool.{and_parts}
use Rattle.chain_theory.specs.Operator.{apply, Basis}
use Rattle.chain_theory.specs.Specification.{Specification}
use Rattle.chain_theory.specs.Agreement.{is_met}
use Rattle.chain_theory.specs.Chain.{Step, IsStepAt}
use Rattle.chain_theory.specs.declared.data.Out.{Out}
use Rattle.chain_theory.specs.declared.data.Out.TheVariants.{Zero, One, Place}
use Rattle.op_basis.specs.Closed.{operator_of, complement, first_complemented, second_complemented, has_complements, polarity_closed}
use Rattle.op_basis.specs.Laws.{operator_values, operator_low, operator_only, every_each}
use Rattle.chain_laws.specs.NormalForm.{IsCopy, IsNegation}
use Rattle.chain_laws.specs.Bodies.{Body, Fits, AreBelow, bits_of, bits_are, step_bit, input_bit, out_bit, same_out, out_named}
use Rattle.chain_laws.specs.Operators.{implied, value_by}
use Rattle.chain_laws.specs.Shorter.{HasFewer}
use Rattle.chain_laws.specs.Trivial.{copy_goes}
use Rattle.chain_laws.specs.Settled.{IsKeyMinimal, paired_same}

-- ---- operators

-- a bit, complemented where the flag is set
abbrev pub flip : Bool → Bool → Bool
flip on bit = if on then not bit else bit

pub flip_twice : (on bit : Bool) → flip on (flip on bit) ≡ bit
flip_twice true true = refl
flip_twice true false = refl
flip_twice false bit = refl

-- an operator with its first operand, its second operand and its value complemented, each where its
-- flag is set
unfoldable pub flipped : Bool → Bool → Bool → ℕ → ℕ
flipped first second own op =
    let one : ℕ = if first then first_complemented op else op in
    let two : ℕ = if second then second_complemented one else one in
    if own then complement two else two

-- the operator is a member and has the values of f
abbrev pub IsMember : Basis → (Bool → Bool → Bool) → ℕ → Type 0
IsMember basis f op = (op < 16) × (basis op ≡ true) × ((a b : Bool) → apply op a b ≡ f a b)

members_of : (basis : Basis) → polarity_closed basis ≡ true → (op : ℕ) → op < 16 → basis op ≡ true →
    (basis (complement op) ≡ true) × (basis (first_complemented op) ≡ true) × (basis (second_complemented op) ≡ true)
unfolding has_complements
members_of basis closed op low member =
    let all = implied (basis op) (basis (complement op) && basis (first_complemented op) && basis (second_complemented op)) (every_each (has_complements basis) closed op low) member in
    let last = and_parts (basis (complement op) && basis (first_complemented op)) (basis (second_complemented op)) all in
    let first = and_parts (basis (complement op)) (basis (first_complemented op)) last.0 in
    (first.0, first.1, last.1)

first_member : (basis : Basis) → polarity_closed basis ≡ true → (f : Bool → Bool → Bool) (op : ℕ) →
    IsMember basis f op → (on : Bool) → IsMember basis (λ a b. f (flip on a) b)
    (if on then first_complemented op else op)
unfolding first_complemented
first_member basis closed f op is false = is
first_member basis closed f op is true = (operator_low (λ a b. apply op (not a) b), (members_of basis closed op is.0 is.1).1, λ a b. operator_values (λ x y. apply op (not x) y) a b ∙ is.2 (not a) b)

second_member : (basis : Basis) → polarity_closed basis ≡ true → (f : Bool → Bool → Bool) (op : ℕ) →
    IsMember basis f op → (on : Bool) → IsMember basis (λ a b. f a (flip on b))
    (if on then second_complemented op else op)
unfolding second_complemented
second_member basis closed f op is false = is
second_member basis closed f op is true = (operator_low (λ a b. apply op a (not b)), (members_of basis closed op is.0 is.1).2, λ a b. operator_values (λ x y. apply op x (not y)) a b ∙ is.2 a (not b))

own_member : (basis : Basis) → polarity_closed basis ≡ true → (f : Bool → Bool → Bool) (op : ℕ) → IsMember basis f op →
    (on : Bool) → IsMember basis (λ a b. flip on (f a b)) (if on then complement op else op)
unfolding complement
own_member basis closed f op is false = is
own_member basis closed f op is true = (operator_low (λ a b. not (apply op a b)), (members_of basis closed op is.0 is.1).0, λ a b. operator_values (λ x y. not (apply op x y)) a b ∙ ap not (is.2 a b))

-- Over a basis closed under complements the adapted operator is a member.
pub flipped_member : (basis : Basis) → polarity_closed basis ≡ true → (op : ℕ) → op < 16 → basis op ≡ true →
    (first second own : Bool) → IsMember basis (λ a b. flip own (apply op (flip first a) (flip second b)))
    (flipped first second own op)
unfolding flipped
flipped_member basis closed op low member first second own =
    let one : ℕ = if first then first_complemented op else op in
    let two : ℕ = if second then second_complemented one else one in
    own_member basis closed (λ a b. apply op (flip first a) (flip second b)) two
    (second_member basis closed (λ a b. apply op (flip first a) b) one
    (first_member basis closed (λ a b. apply op a b) op (low, member, λ a b. refl) first) second) own

-- ---- chains

-- a step whose value and operands are complemented where the flags of their places are set
abbrev pub complemented : (ℕ → Bool) → ℕ → Step → Step
complemented on place a = record { j = a.j; k = a.k; op = flipped (on a.j) (on a.k) (on place) a.op }

abbrev pub complemented_body : ℕ → (ℕ → Bool) → Body → Body
complemented_body n on b = record { step = λ k. complemented on (n + 1 + k) (b.step k); outs = b.outs }

complemented_member : (s : Specification) (basis : Basis) (r d : ℕ) (b : Body) → Fits s basis r d b →
    polarity_closed basis ≡ true → (on : ℕ → Bool) (k : ℕ) → k < r →
    IsMember basis (λ x y. flip (on (s.inputs + 1 + k))
    (apply (b.step k).op (flip (on (b.step k).j) x) (flip (on (b.step k).k) y)))
    (complemented on (s.inputs + 1 + k) (b.step k)).op
complemented_member s basis r d b fits closed on k low =
    flipped_member basis closed (b.step k).op (fits.below k low).op_below (fits.over k low) (on (b.step k).j)
    (on (b.step k).k) (on (s.inputs + 1 + k))

complemented_below : (s : Specification) (basis : Basis) (r d : ℕ) (b : Body) → Fits s basis r d b →
    polarity_closed basis ≡ true → (on : ℕ → Bool) →
    AreBelow s.inputs r (λ k. complemented on (s.inputs + 1 + k) (b.step k))
complemented_below s basis r d b fits closed on k low =
    let is : IsStepAt (s.inputs + 1 + k) (b.step k) = fits.below k low in
    record { j_from = is.j_from; j_below = is.j_below; k_from = is.k_from; k_below = is.k_below; op_below = (complemented_member s basis r d b fits closed on k low).0 }

-- The places that are complemented have complemented values, and all others keep theirs.
pub complemented_bits : (s : Specification) (basis : Basis) (r d : ℕ) (b : Body) → Fits s basis r d b →
    polarity_closed basis ≡ true → (on : ℕ → Bool) → ((p : ℕ) → p ≤ s.inputs → on p ≡ false) → (t p : ℕ) → 1 ≤ p →
    p < s.inputs + 1 + r → bits_of s.inputs r (λ k. complemented on (s.inputs + 1 + k) (b.step k)) t p ≡
    flip (on p) (bits_of s.inputs r b.step t p)
complemented_bits s basis r d b fits closed on inputs t =
    let n : ℕ = s.inputs in
    let old : ℕ → Bool = bits_of n r b.step t in
    bits_are n r (λ k. complemented on (n + 1 + k) (b.step k)) (complemented_below s basis r d b fits closed on) t (λ p. flip (on p) (old p))
    (λ p from low. ap (λ (x : Bool). flip x (old p)) (inputs p low) ∙ input_bit n r b.step t p low)
    (λ k low.
    let a : Step = b.step k in
    let own : Bool = on (n + 1 + k) in
    ap (flip own) (step_bit n r b.step fits.below t k low)
    ∙ sym ((complemented_member s basis r d b fits closed on k low).2 (flip (on a.j) (old a.j)) (flip (on a.k) (old a.k))
    ∙ ap (λ (x : Bool). flip own (apply a.op x (flip (on a.k) (flip (on a.k) (old a.k))))) (flip_twice (on a.j) (old a.j))
    ∙ ap (λ (x : Bool). flip own (apply a.op (old a.j) x)) (flip_twice (on a.k) (old a.k))))

kept_out : (on bits : ℕ → Bool) (o : Out) → ((p : ℕ) → o ≡ Place p → on p ≡ false) → out_bit (λ p. flip (on p) (bits p)) o ≡ out_bit bits o
kept_out on bits Zero off = refl
kept_out on bits One off = refl
kept_out on bits (Place p) off = ap (λ (x : Bool). flip x (bits p)) (off p refl)

-- A chain agrees too when some steps that aren't outs are complemented.
pub complemented_fits : (s : Specification) (basis : Basis) (r d : ℕ) (b : Body) → Fits s basis r d b →
    polarity_closed basis ≡ true → (on : ℕ → Bool) → ((p : ℕ) → p ≤ s.inputs → on p ≡ false) →
    ((h p : ℕ) → h < length b.outs → slice_index_or b.outs h Zero ≡ Place p → on p ≡ false) →
    Fits s basis r d (complemented_body s.inputs on b)
complemented_fits s basis r d b fits closed on inputs off =
    let n : ℕ = s.inputs in
    record {
      below = complemented_below s basis r d b fits closed on;
      over = λ k low. (complemented_member s basis r d b fits closed on k low).1;
      height = fits.height;
      rises = fits.rises;
      low = fits.low;
      outs = fits.outs;
      count = fits.count;
      cells = λ h t from low row.
          let o : Out = slice_index_or b.outs (h - 1) Zero in
          let new : ℕ → Bool = bits_of n r (λ k. complemented on (n + 1 + k) (b.step k)) t in
          let old : ℕ → Bool = bits_of n r b.step t in
          ap (is_met (s.cell h t))
          (same_out (n + r) new (λ p. flip (on p) (old p)) (λ p p_from p_low.
          complemented_bits s basis r d b fits closed on inputs t p p_from (omega arith)) o
          (out_named (n + r) h s.outputs b.outs fits.count from low fits.outs)
          ∙ kept_out on old o (λ p named. off (h - 1) p (omega (arith, fits.count)) named))
          ∙ fits.cells h t from low row;
    }

-- ---- negations

twice_negated : (first own : Bool) → ((u : Bool) → flip own (not (flip first u)) ≡ u) ⊎ ((u : Bool) → flip own (not (flip first u)) ≡ not u)
twice_negated false false = inr (λ u. refl)
twice_negated true true = inr (λ u. flip_twice true (not u))
twice_negated true false = inl (λ u. flip_twice true u)
twice_negated false true = inl (λ u. flip_twice true u)

unflipped : (basis : Basis) → polarity_closed basis ≡ true → (op : ℕ) → op < 16 → basis op ≡ true →
    (first second own : Bool) (u v : Bool) → apply op u v ≡
    flip own (apply (flipped first second own op) (flip first u) (flip second v))
unflipped basis closed op low member first second own u v =
    sym (ap (flip own) ((flipped_member basis closed op low member first second own).2 (flip first u) (flip second v))
    ∙ flip_twice own (apply op (flip first (flip first u)) (flip second (flip second v)))
    ∙ ap (λ (x : Bool). apply op x (flip second (flip second v))) (flip_twice first u)
    ∙ ap (λ (x : Bool). apply op u x) (flip_twice second v))

-- an operator that is a negation after complementing was a negation or a copy before
flipped_negation : (basis : Basis) → polarity_closed basis ≡ true → (op : ℕ) → op < 16 → basis op ≡ true →
    (first second own : Bool) → IsNegation (flipped first second own op) → IsCopy op ⊎ IsNegation op
flipped_negation basis closed op low member first second own negation =
    let before : (u v : Bool) → apply op u v ≡ flip own (apply (flipped first second own op) (flip first u) (flip second v)) = unflipped basis closed op low member first second own in
    let new : ℕ = flipped first second own op in
    ⊎_elim
    (λ (of_first : new ≡ operator_of (λ x y. not x)).
    let is : (u v : Bool) → apply op u v ≡ flip own (not (flip first u)) = λ u v. before u v ∙ ap (flip own) (value_by new (λ x y. not x) of_first (flip first u) (flip second v)) in
    ⊎_elim
    (λ (copies : (u : Bool) → flip own (not (flip first u)) ≡ u). inl (inl (operator_only (λ x y. x) op low (λ u v. is u v ∙ copies u))))
    (λ (negates : (u : Bool) → flip own (not (flip first u)) ≡ not u). inr (inl (operator_only (λ x y. not x) op low (λ u v. is u v ∙ negates u))))
    (twice_negated first own))
    (λ (of_second : new ≡ operator_of (λ x y. not y)).
    let is : (u v : Bool) → apply op u v ≡ flip own (not (flip second v)) = λ u v. before u v ∙ ap (flip own) (value_by new (λ x y. not y) of_second (flip first u) (flip second v)) in
    ⊎_elim
    (λ (copies : (v : Bool) → flip own (not (flip second v)) ≡ v). inl (inr (operator_only (λ x y. y) op low (λ u v. is u v ∙ copies v))))
    (λ (negates : (v : Bool) → flip own (not (flip second v)) ≡ not v). inr (inr (operator_only (λ x y. not y) op low (λ u v. is u v ∙ negates v))))
    (twice_negated second own))
    negation

-- Complementing keeps the rules that the descent of keys has established.
pub complemented_settled : (s : Specification) (basis : Basis) (r d : ℕ) (b : Body) → Fits s basis r d b →
    (HasFewer s basis r → ⊥) → polarity_closed basis ≡ true → (on : ℕ → Bool) → IsKeyMinimal s basis r b.step →
    IsKeyMinimal s basis r (λ k. complemented on (s.inputs + 1 + k) (b.step k))
complemented_settled s basis r d b fits none closed on settled = record {
  paired = paired_same s basis r b.step (λ k. complemented on (s.inputs + 1 + k) (b.step k)) (λ k. inl (refl, refl)) settled.paired;
  negation_of_equal = λ i low negation. ⊎_elim
      (λ (copy : IsCopy (b.step i).op). absurd (none (copy_goes s basis r d b fits i low copy)))
      (λ (was : IsNegation (b.step i).op). settled.negation_of_equal i low was)
      (flipped_negation basis closed (b.step i).op (fits.below i low).op_below (fits.over i low) (on (b.step i).j) (on (b.step i).k) (on (s.inputs + 1 + i)) negation);
}
