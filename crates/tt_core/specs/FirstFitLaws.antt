-- The first of 0, 1, x1, .., xn that meets all cells of an output.
use Rattle.std.proofs.Common.{◌≡◌, ◌⊎◌, ℕ, zero, suc, ◌+◌, ◌<◌, ◌≤◌, Bool, true, false, Option, Some, None, refl, ◌∙◌, subst, arith, inl, inr}
use Rattle.std.specs.Prelude.{if◌then◌else◌}
use Rattle.std.proofs.lemmas.Bool.{cases_lt}
use Rattle.std.proofs.lemmas.Option.{same_Some}
use Rattle.chain_theory.specs.Specification.{Specification}
use Rattle.chain_theory.specs.declared.data.Out.{Out}
use Rattle.chain_theory.specs.declared.data.Out.TheVariants.{Zero, One, Place}
use Rattle.tt_core.specs.Live.{fits, inputs_from, first_fit, trivial_of, IsTrivial, trial_order, IsFirstFit}

-- where no out is found, the first one doesn't fit, and none is found after it
none_found : (test : Bool) (out : Out) (more : Option Out) → (if test then Some out else more) ≡ None → (test ≡ false) × (more ≡ None)
none_found true out more e = absurd cc
none_found false out more e = (refl, e)

-- the out that is found is the first one if it fits, else it is found after the first one
one_found : (test : Bool) (out found : Out) (more : Option Out) → (if test then Some out else more) ≡ Some found → ((test ≡ true) × (out ≡ found)) ⊎ ((test ≡ false) × (more ≡ Some found))
one_found true out found more e = inl (refl, same_Some out found e)
one_found false out found more e = inr (refl, e)

-- a first out that doesn't fit is skipped
passed_over : (test : Bool) (out : Out) (more : Option Out) → test ≡ false → (if test then Some out else more) ≡ more
passed_over true out more e = absurd cc
passed_over false out more e = refl

-- where none of the k inputs from j on is found, none of them fits
no_input : (s : Specification) (h j k : ℕ) → first_fit s h (inputs_from j k) ≡ None → (i : ℕ) → j ≤ i → i < j + k → fits s h (Place i) ≡ false
unfolding first_fit inputs_from
no_input s h j zero e i from to = absurd (omega arith)
no_input s h j (suc k) e i from to =
    let none = none_found (fits s h (Place j)) (Place j) (first_fit s h (inputs_from (j + 1) k)) e in
    elim (cases_lt j i) [
      | inl following ↦ no_input s h (j + 1) k none.1 i (omega arith) (omega arith)
      | inr up ↦ let same : i ≡ j = omega arith in rw same none.0
    ]

-- where none of them fits, none is found
inputs_fail : (s : Specification) (h j k : ℕ) → ((i : ℕ) → j ≤ i → i < j + k → fits s h (Place i) ≡ false) → first_fit s h (inputs_from j k) ≡ None
unfolding first_fit inputs_from
inputs_fail s h j zero each = refl
inputs_fail s h j (suc k) each =
    passed_over (fits s h (Place j)) (Place j) (first_fit s h (inputs_from (j + 1) k))
    (each j (omega arith) (omega arith)) ∙ inputs_fail s h (j + 1) k (λ i from to. each i (omega arith) (omega arith))

-- the first of k inputs from input j on that fits
record FirstInput (s : Specification) (h j k : ℕ) (out : Out) : Type 0 where
  input : ℕ
  is : Place input ≡ out
  from : j ≤ input
  to : input < j + k
  fitting : fits s h (Place input) ≡ true
  earlier : (i : ℕ) → j ≤ i → i < input → fits s h (Place i) ≡ false

-- the input that is found is the first one that fits
input_found : (s : Specification) (h j k : ℕ) (out : Out) → first_fit s h (inputs_from j k) ≡ Some out → FirstInput s h j k out
unfolding first_fit inputs_from
input_found s h j zero out e = absurd cc
input_found s h j (suc k) out e = elim (one_found (fits s h (Place j)) (Place j) out (first_fit s h (inputs_from (j + 1) k)) e) [
  | inl here ↦ record {
    input = j;
    is = here.1;
    from = omega arith;
    to = omega arith;
    fitting = here.0;
    earlier = λ i from to. absurd (omega arith);
  }
  | inr following ↦
      let more = input_found s h (j + 1) k out following.1 in
      record {
        input = more.input;
        is = more.is;
        from = omega (arith, more.from);
        to = omega (arith, more.to);
        fitting = more.fitting;
        earlier = λ i from to. elim (cases_lt j i) [
          | inl later ↦ more.earlier i (omega arith) to
          | inr up ↦ let same : i ≡ j = omega arith in rw same following.0
        ];
      }
]

-- where no trivial out is found, none fits
pub none_fits : (s : Specification) (h : ℕ) → trivial_of s h ≡ None → (out : Out) → IsTrivial s.inputs out → fits s h out ≡ false
unfolding first_fit
none_fits s h e =
    let zero_none = none_found (fits s h Zero) Zero _ e in
    let one_none = none_found (fits s h One) One _ zero_none.1 in
    by_out zero_none.0 one_none.0 (no_input s h 1 s.inputs one_none.1)
  where
    by_out : fits s h Zero ≡ false → fits s h One ≡ false → ((i : ℕ) → 1 ≤ i → i < 1 + s.inputs → fits s h (Place i) ≡ false) → (out : Out) → IsTrivial s.inputs out → fits s h out ≡ false
    by_out zero_fails one_fails each Zero is = zero_fails
    by_out zero_fails one_fails each One is = one_fails
    by_out zero_fails one_fails each (Place i) is = each i is.0 (omega (arith, is.1))

-- where none fits, none is found
pub none_where_none_fits : (s : Specification) (h : ℕ) → ((out : Out) → IsTrivial s.inputs out → fits s h out ≡ false) → trivial_of s h ≡ None
unfolding first_fit
none_where_none_fits s h each =
    passed_over (fits s h Zero) Zero _ (each Zero tt) ∙ (passed_over (fits s h One) One _ (each One tt) ∙ inputs_fail s h 1 s.inputs (λ i from to. each (Place i) (from, omega arith)))

-- nothing is tried before 0
zero_first : (s : Specification) (h : ℕ) → fits s h Zero ≡ true → IsFirstFit s h Zero
zero_first s h fit = record {
  trivial = tt;
  fitting = fit;
  earlier = λ other is before. absurd (omega (arith, before));
}

-- only 0 is tried before 1
one_first : (s : Specification) (h : ℕ) → fits s h Zero ≡ false → fits s h One ≡ true → IsFirstFit s h One
one_first s h zero_fails fit = record {
  trivial = tt;
  fitting = fit;
  earlier = before_one;
}
  where
    before_one : (other : Out) → IsTrivial s.inputs other → trial_order other < trial_order One → fits s h other ≡ false
    before_one Zero is before = zero_fails
    before_one One is before = absurd (omega (arith, before))
    before_one (Place i) is before = absurd (omega (arith, before, is.0))

-- 0, 1 and the lower inputs are tried before an input
input_first : (s : Specification) (h : ℕ) → fits s h Zero ≡ false → fits s h One ≡ false → (out : Out) → FirstInput s h 1 s.inputs out → IsFirstFit s h out
input_first s h zero_fails one_fails out first = subst (IsFirstFit s h) first.is record {
  trivial = (first.from, omega (arith, first.to));
  fitting = first.fitting;
  earlier = before_input;
}
  where
    before_input : (other : Out) → IsTrivial s.inputs other → trial_order other < trial_order (Place first.input) → fits s h other ≡ false
    before_input Zero is before = zero_fails
    before_input One is before = one_fails
    before_input (Place i) is before = first.earlier i is.0 (omega (arith, before))

-- the out that is found is the first one that fits
pub found_first : (s : Specification) (h : ℕ) (out : Out) → trivial_of s h ≡ Some out → IsFirstFit s h out
unfolding first_fit
found_first s h out e = elim (one_found (fits s h Zero) Zero out _ e) [
  | inl zero_fits ↦ subst (IsFirstFit s h) zero_fits.1 (zero_first s h zero_fits.0)
  | inr zero_fails ↦ elim (one_found (fits s h One) One out _ zero_fails.1) [
    | inl one_fits ↦ subst (IsFirstFit s h) one_fits.1 (one_first s h zero_fails.0 one_fits.0)
    | inr one_fails ↦ input_first s h zero_fails.0 one_fails.0 out (input_found s h 1 s.inputs out one_fails.1)
  ]
]
