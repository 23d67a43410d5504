-- No chain over a basis computes an operator that the basis can't express.
use Rattle.std.specs.Prelude.{◌≡◌, ℕ, zero, suc, ◌+◌, ◌-◌, ◌≤◌, ◌<◌, Bool, true, false, ◌&&◌, List, [], ◌∷◌, All, length, slice_get, slice_index_or, Some, refl}
use Rattle.std.proofs.Common.{arith, sym, ◌∙◌, ap, subst, inl, inr}
use Rattle.std.proofs.lemmas.Bool.{cases_lt, cases_eq}
use Rattle.chain_theory.specs.declared.data.Cell.{Cell}
use Rattle.chain_theory.specs.declared.data.Cell.TheVariants.{Zero, One}
use Rattle.chain_theory.specs.declared.data.Out.{Out}
use Rattle.chain_theory.specs.declared.data.Out.TheVariants as outs
use Rattle.chain_theory.specs.Operator.{apply, Basis}
use Rattle.chain_theory.specs.Specification.{Specification, input}
use Rattle.chain_theory.specs.Chain.{Step, Chain, IsStepAt, IsChain, NamesPlace}
use Rattle.chain_theory.specs.Value.{value, out_value}
use Rattle.chain_theory.specs.ValueLaws.{value-input, value-step}
use Rattle.chain_theory.specs.Agreement.{is_met, IsOver, HasChain}
use Rattle.op_basis.specs.Closed.{every, implies}
use Rattle.op_basis.specs.Laws.{operator_values, operator_low, operator_only, every_each}
use Rattle.net_theory.specs.NameLaws.{all_at}
use Rattle.net_basis.specs.Joins.{joined, has_joined, has_joined_on, has_all_joined, is_closed}
use Rattle.net_basis.specs.OverBasis.{IsInexpressible}

abbrev pub bit_cell : Bool → Cell
bit_cell true = One
bit_cell false = Zero

-- the table of an operator: one output over two inputs
abbrev pub table_of : ℕ → Specification
table_of op = record { inputs = 2; outputs = 1; cell = λ h t. bit_cell (apply op (input 2 t 1) (input 2 t 2)) }

-- ---- closed sets

implied : (a b : Bool) → implies a b ≡ true → a ≡ true → b ≡ true
implied true b e is = e
implied false b e is = absurd cc

both : (a b : Bool) → a ≡ true → b ≡ true → (a && b) ≡ true
both true true e f = refl
both true false e f = absurd cc
both false b e f = absurd cc

pub closed_joined : (basis : Basis) (known : ℕ → Bool) (p u v : ℕ) → is_closed basis known ≡ true → p < 16 → u < 16 → v < 16 →
    basis p ≡ true → known u ≡ true → known v ≡ true → known (joined p u v) ≡ true
unfolding has_all_joined has_joined_on has_joined
closed_joined basis known p u v closed low_p low_u low_v member first second =
    let a : has_all_joined basis known p ≡ true = every_each (has_all_joined basis known) closed p low_p in
    let b : every (has_joined_on known p) ≡ true = implied (basis p) (every (has_joined_on known p)) a member in
    let c : has_joined_on known p u ≡ true = every_each (has_joined_on known p) b u low_u in
    let d : has_joined known p u v ≡ true = every_each (has_joined known p u) c v low_v in
    implied (known u && known v) (known (joined p u v)) d (both (known u) (known v) first second)

joined_low : (p u v : ℕ) → joined p u v < 16
unfolding joined
joined_low p u v = operator_low (λ a b. apply p (apply u a b) (apply v a b))

joined_value : (p u v : ℕ) (x y : Bool) → apply (joined p u v) x y ≡ apply p (apply u x y) (apply v x y)
unfolding joined
joined_value p u v x y = operator_values (λ a b. apply p (apply u a b) (apply v a b)) x y

first_value : (x y : Bool) → apply 3 x y ≡ x
first_value true true = refl
first_value true false = refl
first_value false true = refl
first_value false false = refl

second_value : (x y : Bool) → apply 5 x y ≡ y
second_value true true = refl
second_value true false = refl
second_value false true = refl
second_value false false = refl

-- ---- the places of a chain

-- the values of the place are those of a known function
record IsKnownAt (known : ℕ → Bool) (c : Chain) (p : ℕ) : Type 0 where
  pub function : ℕ
  pub low : function < 16
  pub is_known : known function ≡ true
  pub values : (t : ℕ) → value c t p ≡ apply function (input 2 t 1) (input 2 t 2)

step_at : (ss : List Step) (i : ℕ) → i < length ss → (s : Step) × (slice_get ss i ≡ Some s)
step_at [] i low = absurd (omega (arith, low))
step_at (s ∷ ss) zero low = (s, refl)
step_at (s ∷ ss) (suc i) low = step_at ss i (omega (arith, low))

input_value : (c : Chain) (t p : ℕ) → c.n ≡ 2 → p ≤ 2 → value c t p ≡ input 2 t p
input_value c t p two low = value-input c t p (omega (arith, two, low)) ∙ ap (λ (n : ℕ). input n t p) two

step_known : (basis : Basis) (known : ℕ → Bool) (c : Chain) (i : ℕ) (s : Step) → is_closed basis known ≡ true → IsChain c →
    IsOver basis c → slice_get c.steps i ≡ Some s → IsKnownAt known c s.j → IsKnownAt known c s.k →
    IsKnownAt known c (c.n + 1 + i)
step_known basis known c i s closed is over at a b =
    let here : IsStepAt (c.n + 1 + i) s = is.steps.each i s at in
    let member : basis s.op ≡ true = all_at (λ (x : Step). basis x.op ≡ true) c.steps i s over at in
    record {
      function = joined s.op a.function b.function;
      low = joined_low s.op a.function b.function;
      is_known = closed_joined basis known s.op a.function b.function closed here.op_below a.low b.low member a.is_known b.is_known;
      values = λ t.
          value-step c t i s is.steps at
          ∙ ap (λ (x : Bool). apply s.op x (value c t s.k)) (a.values t)
          ∙ ap (λ (x : Bool). apply s.op (apply a.function (input 2 t 1) (input 2 t 2)) x) (b.values t)
          ∙ sym (joined_value s.op a.function b.function (input 2 t 1) (input 2 t 2));
    }

place_known : (basis : Basis) (known : ℕ → Bool) (c : Chain) → known 3 ≡ true → known 5 ≡ true → is_closed basis known ≡ true →
    c.n ≡ 2 → IsChain c → IsOver basis c → (bound p : ℕ) → p < bound → 1 ≤ p → p ≤ 2 + length c.steps → IsKnownAt known c p
place_known basis known c first second closed two is over zero p low from to = absurd (omega (arith, low))
place_known basis known c first second closed two is over (suc bound) p low from to = elim (cases_lt p 3) [
  | inl is_input ↦ elim (cases_eq p 1) [
    | inl one ↦ record {
      function = 3;
      low = omega arith;
      is_known = first;
      values = λ t. ap (value c t) one ∙ input_value c t 1 two (omega arith) ∙ sym (first_value (input 2 t 1) (input 2 t 2));
    }
    | inr other ↦
        let is_two : p ≡ 2 = omega (arith, is_input, from, other) in
        record {
          function = 5;
          low = omega arith;
          is_known = second;
          values = λ t. ap (value c t) is_two ∙ input_value c t 2 two (omega arith) ∙ sym (second_value (input 2 t 1) (input 2 t 2));
        }
  ]
  | inr is_step ↦
      let i : ℕ = p - 3 in
      let here : c.n + 1 + i ≡ p = omega (arith, two, is_step) in
      let s = step_at c.steps i (omega (arith, is_step, to)) in
      let at : IsStepAt (c.n + 1 + i) s.0 = is.steps.each i s.0 s.1 in
      subst (IsKnownAt known c) here (step_known basis known c i s.0 closed is over s.1
      (place_known basis known c first second closed two is over bound s.0.j (omega (arith, at.j_below, here, low)) at.j_from (omega (arith, at.j_below, here, to)))
      (place_known basis known c first second closed two is over bound s.0.k (omega (arith, at.k_below, here, low)) at.k_from (omega (arith, at.k_below, here, to))))
]

-- ---- operators by the four rows

-- functions with the same values on the four rows are equal
by_rows : (f g : Bool → Bool → Bool) → ((t : ℕ) → t < 4 → f (input 2 t 1) (input 2 t 2) ≡ g (input 2 t 1) (input 2 t 2)) →
    (a b : Bool) → f a b ≡ g a b
by_rows f g same false false = same 0 (omega arith)
by_rows f g same false true = same 1 (omega arith)
by_rows f g same true false = same 2 (omega arith)
by_rows f g same true true = same 3 (omega arith)

met_cell : (b x : Bool) → is_met (bit_cell b) x ≡ true → x ≡ b
met_cell true x e = e
met_cell false true e = absurd cc
met_cell false false e = refl

differ : (b : Bool) → b ≡ true → b ≡ false → ⊥
differ b on off = cc

-- the out of a chain isn't the operator on all rows
out_not : (basis : Basis) (op : ℕ) (c : Chain) (o : Out) → IsInexpressible basis op → op < 16 → c.n ≡ 2 → IsChain c → IsOver basis c →
    NamesPlace (c.n + length c.steps) o →
    ((t : ℕ) → t < 4 → out_value c t o ≡ apply op (input 2 t 1) (input 2 t 2)) → ⊥
out_not basis op c outs.Zero cant low two is over names same =
    let one : 0 ≡ op = sym (operator_only (λ a b. false) op low (λ a b. sym (by_rows (λ x y. false) (λ x y. apply op x y) same a b))) in
    differ (cant.known op) (ap cant.known (sym one) ∙ cant.zero) cant.lacks
out_not basis op c outs.One cant low two is over names same =
    let one : 15 ≡ op = sym (operator_only (λ a b. true) op low (λ a b. sym (by_rows (λ x y. true) (λ x y. apply op x y) same a b))) in
    differ (cant.known op) (ap cant.known (sym one) ∙ cant.one) cant.lacks
out_not basis op c (outs.Place p) cant low two is over names same =
    let at : IsKnownAt cant.known c p = place_known basis cant.known c cant.first cant.second cant.closed two is over (suc p) p (omega arith) names.0 (omega (arith, names.1, two)) in
    let equal : (a b : Bool) → apply at.function a b ≡ apply op a b =
    by_rows (λ x y. apply at.function x y) (λ x y. apply op x y) (λ t row. sym (at.values t) ∙ same t row) in
    let one : at.function ≡ op =
    operator_only (λ a b. apply op a b) at.function at.low equal ∙ sym (operator_only (λ a b. apply op a b) op low (λ a b. refl)) in
    differ (cant.known op) (ap cant.known (sym one) ∙ at.is_known) cant.lacks

-- No chain of any size over the basis has the table of the operator.
pub inexpressible_none : (basis : Basis) (op r : ℕ) → op < 16 → IsInexpressible basis op → HasChain (table_of op) basis r → ⊥
inexpressible_none basis op r low cant has =
    out_not basis op has.chain (slice_index_or has.chain.outs 0 outs.Zero) cant low has.agrees.inputs has.is_chain has.is_over
    (first_out has.chain.outs (omega (arith, has.agrees.outputs)) has.is_chain.outs)
    (λ t row. met_cell (apply op (input 2 t 1) (input 2 t 2)) _ (has.agrees.cells 1 t (omega arith) (omega arith) row))
  where
    first_out : (os : List Out) → 0 < length os → All (NamesPlace (has.chain.n + length has.chain.steps)) os →
        NamesPlace (has.chain.n + length has.chain.steps) (slice_index_or os 0 outs.Zero)
    first_out [] some names = absurd (omega (arith, some))
    first_out (o ∷ os) some names = all_at (NamesPlace (has.chain.n + length has.chain.steps)) (o ∷ os) 0 o names refl
