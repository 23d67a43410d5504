-- A chain in normal form satisfies the constraints on outputs, operators and values, however steps select their
-- operands.
use Rattle.std.proofs.Common.{◌≡◌, ℕ, ◌+◌, ◌-◌, ◌<◌, ◌≤◌, Bool, true, false, List, [], ◌∷◌, ◌++◌, length, map, get_or, refl, sym, ap, ◌∙◌, subst, arith, inl, inr, ⊎_elim}
use Rattle.std.specs.Prelude.{ℤ}
use Rattle.std.specs.List.{flat_map}
use Rattle.std.proofs.lemmas.Bool.{or_left, or_right}
use Rattle.std.proofs.lemmas.Nat.{pow_pos}
use Rattle.std.proofs.lemmas.List.{get_or_default}
use Rattle.chain_theory.specs.Chain.{Chain}
use Rattle.chain_theory.specs.Value.{value}
use Rattle.chain_theory.specs.declared.data.Out.TheVariants.{Zero, Place}
use Rattle.op_basis.specs.Basis.{members}
use Rattle.op_basis.specs.Closed.{const_closed, polarity_closed}
use Rattle.chain_laws.specs.NormalForm.{IsStep, IsOut, IsNormalForm}
use Rattle.sat_theory.specs.Formula.{Assignment}
use Rattle.tt_core.specs.Words.{Words, specification}
use Rattle.clause_core.specs.declared.raw.RawLit.{RawLit}
use Rattle.enc_theory.specs.declared.data.Dimensions.{Dimensions}
use Rattle.clause_core.specs.Clauses.{written}
use Rattle.enc_theory.specs.Numbering.{sizes_of, places, outputs, g_var, x_is}
use Rattle.enc_theory.specs.Families.{driver, operator_raw}
use Rattle.enc_theory.specs.Cuts.{drives, other_operator, not_idle, row_0_at, row_0}
use Rattle.enc_laws.specs.Bounds.{g_positive}
use Rattle.clause_core.specs.Holds.{holds, both_hold, each_holds, same, raw_value, raws_bit, raws_bit-map, any_make, holds-written, ArePositive, positive-map, range_contains}
use Rattle.enc_laws.specs.Layouts.{IsStepPlace}
use Rattle.enc_laws.specs.Live.{out_at}
use Rattle.enc_laws.specs.Solves.{x_bit, x_is_value, x_is_positive, there_place, differs_from, has_own}
use Rattle.enc_laws.specs.Decoded.{IsFor}
use Rattle.enc_laws.specs.Complete.{step_at, test_place, IsOfChain, step_there, bits_are, operator_is}
use Rattle.enc_laws.specs.PairTests.{if_holds}

-- the place of a step, by its index
pub step_index : (w : Words) (basis r : ℕ) (c : Chain) → IsFor w basis r c → (i : ℕ) → IsStepPlace (sizes_of w r) i → c.n + 1 + (i - (c.n + 1)) ≡ i
step_index w basis r c is i place = let from = place.from in let inputs = is.agrees.inputs in omega arith

pub drives_positive : (z : Dimensions) (i : ℕ) → IsStepPlace z i → ArePositive (map (drives z i) (outputs z))
unfolding drives driver
drives_positive z i place = positive-map (drives z i) (outputs z) (λ h c. g_positive z h i place)

module _ (w : Words) (basis r : ℕ) (c : Chain) (v : Assignment) (of : IsOfChain w r c v) (is : IsFor w basis r c) where
  is_step : (i : ℕ) → IsStepPlace (sizes_of w r) i → IsStep c (i - (c.n + 1)) (step_at c i)
  is_step i place = step_there w basis r c is i place

  -- a step that is an output has an output's number
  out_bit : (i : ℕ) → IsStepPlace (sizes_of w r) i → IsOut c i → (h : ℕ) × (1 ≤ h) × (h ≤ length w.on) × (v (g_var (sizes_of w r) h i) ≡ true)
  out_bit i place (k, low, at) =
      let outputs = is.agrees.outputs in
      let index : k + 1 - 1 ≡ k = omega arith in
      let within : k < length c.outs = low in (
        k + 1,
        omega arith,
        omega arith,
        of.outs (k + 1) i (omega arith) (omega arith) place
            ∙ test_place i (out_at c.outs (k + 1)) (ap (λ (x : ℕ). get_or c.outs x Zero) index ∙ get_or_default c.outs k Zero (Place i) low ∙ at),
      )

  pub drives_bit : (i : ℕ) → IsStepPlace (sizes_of w r) i → IsOut c i → raws_bit v (map (drives (sizes_of w r) i) (outputs (sizes_of w r))) ≡ true
  unfolding drives driver raw_value same
  drives_bit i place out =
      let (h, some, low, true_) = out_bit i place out in
      raws_bit-map v (drives (sizes_of w r) i) (outputs (sizes_of w r))
      ∙ any_make (λ (x : ℕ). v (g_var (sizes_of w r) x i)) (outputs (sizes_of w r)) h (range_contains 1 (length w.on) h some (omega arith)) true_

  -- no step is a projection, and none a constant for bases where constants aren't needed
  other_holds : (i op : ℕ) → IsStepPlace (sizes_of w r) i → op < 16 → ((step_at c i).op ≡ op → ⊥) → holds v (other_operator basis (sizes_of w r) i op) ≡ true
  unfolding other_operator
  other_holds i op place low other =
      if_holds v (members basis op) (written (operator_raw (sizes_of w r) i op))
      (λ member. differs_from (sizes_of w r) v i op low (λ e. other (operator_is w basis r c v of is i place ∙ sym e)))

  pub idle_holds : (normal_form : IsNormalForm (members basis) (specification w) c) (i : ℕ) (constants : Bool) → IsStepPlace (sizes_of w r) i → const_closed (members basis) ≡ constants
      → holds v (not_idle constants basis (sizes_of w r) i) ≡ true
  unfolding holds not_idle
  idle_holds normal_form i true place closed =
      let f : ℕ → List (List ℤ) = other_operator basis (sizes_of w r) i in
      let k : ℕ = i - (c.n + 1) in
      both_hold v (f 0) (f 3 ++ (f 5 ++ (f 15 ++ []))) (other_holds i 0 place (omega arith) (λ e. normal_form.no_constant closed k (step_at c i) (is_step i place) (inl e)))
      (both_hold v (f 3) (f 5 ++ (f 15 ++ [])) (other_holds i 3 place (omega arith) (λ e. normal_form.no_copy k (step_at c i) (is_step i place) (inl e)))
      (both_hold v (f 5) (f 15 ++ []) (other_holds i 5 place (omega arith) (λ e. normal_form.no_copy k (step_at c i) (is_step i place) (inr e)))
      (both_hold v (f 15) [] (other_holds i 15 place (omega arith) (λ e. normal_form.no_constant closed k (step_at c i) (is_step i place) (inr e))) refl)))
  idle_holds normal_form i false place closed =
      let f : ℕ → List (List ℤ) = other_operator basis (sizes_of w r) i in
      let k : ℕ = i - (c.n + 1) in
      both_hold v (f 3) (f 5 ++ []) (other_holds i 3 place (omega arith) (λ e. normal_form.no_copy k (step_at c i) (is_step i place) (inl e)))
      (both_hold v (f 5) [] (other_holds i 5 place (omega arith) (λ e. normal_form.no_copy k (step_at c i) (is_step i place) (inr e))) refl)

  -- a step that drives no output is 0 on row 0
  pub row_0_holds : IsNormalForm (members basis) (specification w) c → holds v (row_0 basis (sizes_of w r)) ≡ true
  unfolding row_0 row_0_at raws_bit
  row_0_holds normal_form =
      let z : Dimensions = sizes_of w r in
      if_holds v (polarity_closed (members basis)) (flat_map (row_0_at z) (places z)) (λ closed. each_holds v (row_0_at z) (places z) (λ i in_places.
      let at : IsStepPlace (sizes_of w r) i = there_place z i in_places in
      let outs : List RawLit = map (drives z i) (outputs z) in
      holds-written v (x_is z i 0 false ∷ outs) (x_is_positive z i 0 false, drives_positive z i at)
      ∙ ⊎_elim
      (λ (zero_ : value c 0 (c.n + 1 + (i - (c.n + 1))) ≡ false). or_left (raw_value v (x_is z i 0 false)) (raws_bit v outs)
      (x_is_value z v i 0 false ∙ has_own (x_bit z v i 0) false (bits_are w basis r c v of is i 0 at.to (pow_pos w.n) ∙ ap (value c 0) (sym (step_index w basis r c is i at)) ∙ zero_)))
      (λ (out : IsOut c (c.n + 1 + (i - (c.n + 1)))). or_right (raw_value v (x_is z i 0 false)) (raws_bit v outs) (drives_bit i at (subst (IsOut c) (step_index w basis r c is i at) out)))
      (normal_form.zero_on_row_0 closed (i - (c.n + 1)) (step_at c i) (is_step i at))))
