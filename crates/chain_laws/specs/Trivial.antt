-- Steps that a least chain doesn't need: copies, constants, and steps that nothing reads.
use Rattle.std.proofs.Common.{◌≡◌, ℕ, ◌+◌, ◌-◌, ◌≤◌, ◌<◌, Bool, true, false, not, List, length, refl, sym, ap, ◌∙◌, arith, inl, inr, ⊎_elim, ◌⊎◌, subst}
use Rattle.std.specs.Prelude.{slice_index_or, min}
use Rattle.std.specs.List.{Contains}
use Rattle.std.proofs.lemmas.List.Elements.{Contains-get_or}
use Rattle.std.proofs.lemmas.Bool.{cases_eq, cases_lt}
use Rattle.std.proofs.lemmas.Bool.Decides.{nat_tests}
use Rattle.chain_theory.specs.Operator.{apply, Basis}
use Rattle.chain_theory.specs.Specification.{Specification}
use Rattle.chain_theory.specs.Chain.{Step, IsStepAt}
use Rattle.chain_theory.specs.declared.data.Out.{Out}
use Rattle.chain_theory.specs.declared.data.Out.TheVariants.{Zero, One, Place}
use Rattle.op_basis.specs.Closed.{operator_of, const_closed}
use Rattle.chain_laws.specs.Keys.{smaller, ComesBefore}
use Rattle.chain_laws.specs.NormalForm.{IsCopy, IsConstant, IsNegation, CopiesBoth, NegatesBoth, Reads}
use Rattle.chain_laws.specs.Bodies.{Body, Fits, bits_of}
use Rattle.chain_laws.specs.Operators.{value_by, two_values}
use Rattle.chain_laws.specs.Shorter.{HasFewer, redirected, unused}
use Rattle.chain_laws.specs.Replaced.{replaced_lower}
use Rattle.chain_laws.specs.Ranks.{rank}
use Rattle.chain_laws.specs.Decidable.{IsSomewhere, decided_somewhere, IsDecidable, IsLower, decided_or}

-- ---- copies and constants

pub copy_goes : (s : Specification) (basis : Basis) (r d : ℕ) (b : Body) → Fits s basis r d b → (i : ℕ) → i < r → IsCopy (b.step i).op → HasFewer s basis r
copy_goes s basis r d b fits i low copy =
    let a : Step = b.step i in
    let is : IsStepAt (s.inputs + 1 + i) a = fits.below i low in
    ⊎_elim
    (λ (first : a.op ≡ operator_of (λ x y. x)). redirected s basis r d b fits i low (Place a.j) (
      is.j_from,
      omega (arith, is.j_below),
    ) (λ t. value_by a.op (λ x y. x) first (bits_of s.inputs r b.step t a.j)
    (bits_of s.inputs r b.step t a.k)))
    (λ (second : a.op ≡ operator_of (λ x y. y)). redirected s basis r d b fits i low (Place a.k) (
      is.k_from,
      omega (arith, is.k_below),
    ) (λ t. value_by a.op (λ x y. y) second (bits_of s.inputs r b.step t a.j)
    (bits_of s.inputs r b.step t a.k)))
    copy

pub constant_goes : (s : Specification) (basis : Basis) (r d : ℕ) (b : Body) → Fits s basis r d b → const_closed basis ≡ true → (i : ℕ) → i < r → IsConstant (b.step i).op → HasFewer s basis r
constant_goes s basis r d b fits closed i low constant =
    let a : Step = b.step i in
    ⊎_elim
    (λ (never : a.op ≡ operator_of (λ x y. false)). redirected s basis r d b fits i low Zero closed
    (λ t. value_by a.op (λ x y. false) never (bits_of s.inputs r b.step t a.j) (bits_of s.inputs r b.step t a.k)))
    (λ (always : a.op ≡ operator_of (λ x y. true)). redirected s basis r d b fits i low One closed
    (λ t. value_by a.op (λ x y. true) always (bits_of s.inputs r b.step t a.j) (bits_of s.inputs r b.step t a.k)))
    constant

-- ---- equal operands

equal_value : (f : Bool → Bool) (op : ℕ) → apply op false false ≡ f false → apply op true true ≡ f true → (x y : Bool) → x ≡ y → apply op x y ≡ f x
equal_value f op at_0 at_1 x y e = ap (λ (z : Bool). apply op x z) (sym e) ∙ two_values (λ z. apply op z z) f at_0 at_1 x

pub equal_copy_goes : (s : Specification) (basis : Basis) (r d : ℕ) (b : Body) → Fits s basis r d b → (i : ℕ) → i < r → (b.step i).j ≡ (b.step i).k → CopiesBoth (b.step i).op → HasFewer s basis r
equal_copy_goes s basis r d b fits i low equal copies =
    let a : Step = b.step i in
    let is : IsStepAt (s.inputs + 1 + i) a = fits.below i low in
    redirected s basis r d b fits i low (Place a.j) (is.j_from, omega (arith, is.j_below))
    (λ t. equal_value (λ z. z) a.op copies.0 copies.1 (bits_of s.inputs r b.step t a.j) (bits_of s.inputs r b.step t a.k) (ap (bits_of s.inputs r b.step t) equal))

equal_constant_goes : (s : Specification) (basis : Basis) (r d : ℕ) (b : Body) → Fits s basis r d b →
    const_closed basis ≡ true → (i : ℕ) → i < r → (b.step i).j ≡ (b.step i).k → (x : Bool) →
    apply (b.step i).op false false ≡ x → apply (b.step i).op true true ≡ x → HasFewer s basis r
equal_constant_goes s basis r d b fits closed i low equal false at_0 at_1 =
    redirected s basis r d b fits i low Zero closed (λ t. equal_value (λ z. false) (b.step i).op at_0 at_1
    (bits_of s.inputs r b.step t (b.step i).j) (bits_of s.inputs r b.step t (b.step i).k)
    (ap (bits_of s.inputs r b.step t) equal))
equal_constant_goes s basis r d b fits closed i low equal true at_0 at_1 =
    redirected s basis r d b fits i low One closed (λ t. equal_value (λ z. true) (b.step i).op at_0 at_1
    (bits_of s.inputs r b.step t (b.step i).j) (bits_of s.inputs r b.step t (b.step i).k)
    (ap (bits_of s.inputs r b.step t) equal))

equal_by : (s : Specification) (basis : Basis) (r d : ℕ) (b : Body) → Fits s basis r d b → const_closed basis ≡ true →
    (i : ℕ) → i < r → (b.step i).j ≡ (b.step i).k → (x y : Bool) → apply (b.step i).op false false ≡ x →
    apply (b.step i).op true true ≡ y → HasFewer s basis r ⊎ NegatesBoth (b.step i).op
equal_by s basis r d b fits closed i low equal false false at_0 at_1 = inl (equal_constant_goes s basis r d b fits closed i low equal false at_0 at_1)
equal_by s basis r d b fits closed i low equal true true at_0 at_1 = inl (equal_constant_goes s basis r d b fits closed i low equal true at_0 at_1)
equal_by s basis r d b fits closed i low equal false true at_0 at_1 = inl (equal_copy_goes s basis r d b fits i low equal (at_0, at_1))
equal_by s basis r d b fits closed i low equal true false at_0 at_1 = inr (at_0, at_1)

-- If constants can be left out, a step with equal operands can be left out or is a negation.
pub equal_goes : (s : Specification) (basis : Basis) (r d : ℕ) (b : Body) → Fits s basis r d b →
    const_closed basis ≡ true → (i : ℕ) → i < r → (b.step i).j ≡ (b.step i).k → HasFewer s basis r ⊎
    NegatesBoth (b.step i).op
equal_goes s basis r d b fits closed i low equal = equal_by s basis r d b fits closed i low equal (apply (b.step i).op false false) (apply (b.step i).op true true) refl refl

-- ---- steps that nothing reads

decided_out : (o : Out) (p : ℕ) → IsDecidable (o ≡ Place p)
decided_out Zero p = inr (λ (e : Zero ≡ Place p). cc)
decided_out One p = inr (λ (e : One ≡ Place p). cc)
decided_out (Place q) p = ⊎_elim (λ (e : q ≡ p). inl (ap Place e)) (λ (other : q ≡ p → ⊥). inr (λ (e : Place q ≡ Place p). other cc)) (cases_eq q p)

-- the place is the out of some output
abbrev pub IsSomeOut : List Out → ℕ → Type 0
IsSomeOut outs p = IsSomewhere (λ h. slice_index_or outs h Zero ≡ Place p) (length outs)

pub decided_named : (outs : List Out) (p : ℕ) → IsDecidable (IsSomeOut outs p)
decided_named outs p = decided_somewhere (λ h. slice_index_or outs h Zero ≡ Place p) (λ h. decided_out (slice_index_or outs h Zero) p) (length outs)

pub named_contains : (outs : List Out) (p : ℕ) → IsSomeOut outs p → Contains outs (Place p)
named_contains outs p named = subst (Contains outs) named.2 (Contains-get_or outs named.0 Zero named.1)

pub decided_reads : (a : Step) (p : ℕ) → IsDecidable (Reads a p)
decided_reads a p = decided_or (a.j ≡ p) (a.k ≡ p) (cases_eq a.j p) (cases_eq a.k p)

-- the step of index i is an out, or some step reads it
abbrev pub IsOutOrRead : ℕ → ℕ → Body → ℕ → Type 0
IsOutOrRead n r b i = Contains b.outs (Place (n + 1 + i)) ⊎ ((k : ℕ) × (k < r) × Reads (b.step k) (n + 1 + i))

-- A step can be left out or is used.
pub unused_goes : (s : Specification) (basis : Basis) (r d : ℕ) (b : Body) → Fits s basis r d b → (i : ℕ) → i < r → HasFewer s basis r ⊎ IsOutOrRead s.inputs r b i
unused_goes s basis r d b fits i low =
    let p : ℕ = s.inputs + 1 + i in
    ⊎_elim
    (λ (named : IsSomeOut b.outs p). inr (inl (named_contains b.outs p named)))
    (λ (no_out : IsSomeOut b.outs p → ⊥). ⊎_elim
    (λ (found : IsSomewhere (λ k. Reads (b.step k) p) r). inr (inr found))
    (λ (none : IsSomewhere (λ k. Reads (b.step k) p) r →
    ⊥). inl (unused s basis r d b fits i low (λ k k_low reads. none (k, k_low, reads)) (λ h h_from h_low named.
    no_out (h - 1, omega (arith, fits.count), named))))
    (decided_somewhere (λ k. Reads (b.step k) p) (λ k. decided_reads (b.step k) p) r))
    (decided_named b.outs p)

-- ---- negations

smaller_equal : (a : Step) → a.j ≡ a.k → smaller a ≡ 0
smaller_equal a e = grind (arith, nat_tests)

smaller_apart : (a : Step) → (a.j ≡ a.k → ⊥) → smaller a ≡ min a.j a.k
smaller_apart a apart = grind (arith, nat_tests)

-- an operand twice comes before a pair of this operand and another one
twice_before : (op : ℕ) (a : Step) → 1 ≤ a.j → 1 ≤ a.k → (a.j ≡ a.k → ⊥) → ComesBefore (record { j = a.j; k = a.j; op = op }) a × ComesBefore (record { j = a.k; k = a.k; op = op }) a
twice_before op a j_from k_from apart =
    let u : Step = record { j = a.j; k = a.j; op = op } in
    let v : Step = record { j = a.k; k = a.k; op = op } in
    let own = smaller_apart a apart in
    let none_u : smaller u ≡ 0 = smaller_equal u refl in
    let none_v : smaller v ≡ 0 = smaller_equal v refl in
    elim (cases_lt a.j a.k) [
      | inl lt ↦ (inl (omega arith), inr (omega arith, omega arith))
      | inr ge ↦ (inr (omega arith, omega arith), inl (omega (arith, apart)))
    ]

-- A negation of one of two different operands can read that operand twice; the keys decrease.
pub negation_lower : (s : Specification) (basis : Basis) (r d : ℕ) (b : Body) → Fits s basis r d b → (i : ℕ) → i < r →
    IsNegation (b.step i).op → ((b.step i).j ≡ (b.step i).k → ⊥) →
    IsLower (Fits s basis r d) (λ x. rank (s.inputs + r + 1) r x.step) b
negation_lower s basis r d b fits i low negation apart =
    let a : Step = b.step i in
    let is : IsStepAt (s.inputs + 1 + i) a = fits.below i low in
    let heights = fits.rises i low in
    let first = twice_before a.op a is.j_from is.k_from apart in
    ⊎_elim
    (λ (of_j : a.op ≡ operator_of (λ x y. not x)).
    let u : Step = record { j = a.j; k = a.j; op = a.op } in
    replaced_lower s basis r d b fits i low u (record {
      j_from = is.j_from;
      j_below = is.j_below;
      k_from = is.j_from;
      k_below = is.j_below;
      op_below = is.op_below;
    }) (fits.over i low) heights.0 heights.0
    (λ t. let bits : ℕ → Bool = bits_of s.inputs r b.step t in value_by a.op (λ x y. not x) of_j (bits a.j) (bits a.j) ∙ sym (value_by a.op (λ x y. not x) of_j (bits a.j) (bits a.k)))
    first.0)
    (λ (of_k : a.op ≡ operator_of (λ x y. not y)).
    let u : Step = record { j = a.k; k = a.k; op = a.op } in
    replaced_lower s basis r d b fits i low u (record {
      j_from = is.k_from;
      j_below = is.k_below;
      k_from = is.k_from;
      k_below = is.k_below;
      op_below = is.op_below;
    }) (fits.over i low) heights.1 heights.1
    (λ t. let bits : ℕ → Bool = bits_of s.inputs r b.step t in value_by a.op (λ x y. not y) of_k (bits a.k) (bits a.k) ∙ sym (value_by a.op (λ x y. not y) of_k (bits a.j) (bits a.k)))
    first.1)
    negation
