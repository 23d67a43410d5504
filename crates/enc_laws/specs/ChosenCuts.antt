-- A chain in normal form satisfies the constraints of MSV.
use Rattle.std.proofs.Common.{◌≡◌, ◌⊎◌, ℕ, ◌+◌, ◌-◌, ◌<◌, ◌≤◌, ◌==◌, Bool, true, false, not, ◌&&◌, ◌||◌, List, [], ◌∷◌, ◌++◌, map, get_or, Contains, refl, sym, ap, ◌∙◌, subst, arith, inl, inr, ⊎_elim}
use Rattle.std.specs.Prelude.{ℤ, if◌then◌else◌, min, max, nat_lt}
use Rattle.std.specs.List.{flat_map, range_with_len}
use Rattle.std.proofs.lemmas.Bool.{cases_eq, cases_Bool, or_left, or_right, eq-eqb, both_ways, cases_lt}
use Rattle.std.proofs.lemmas.Option.{slice_get_within, get_or_from_slice_get}
use Rattle.chain_theory.specs.Chain.{Step, Chain}
use Rattle.op_basis.specs.Basis.{members}
use Rattle.op_basis.specs.Closed.{swap_closed, const_closed, reapply_closed}
use Rattle.chain_laws.specs.NormalForm.{IsStep, IsOut, IsRead, Reads, IsReapplication, IsNormalForm, NegatesBoth, IsNegation}
use Rattle.sat_theory.specs.Formula.{Assignment}
use Rattle.tt_core.specs.Words.{Words, specification}
use Rattle.clause_core.specs.declared.raw.RawLit.{RawLit}
use Rattle.clause_core.specs.declared.raw.RawLit.TheVariants.{Var}
use Rattle.enc_theory.specs.declared.data.Side.{Side}
use Rattle.enc_theory.specs.declared.data.Side.TheVariants.{First, Second}
use Rattle.enc_theory.specs.declared.data.Dimensions.{Dimensions}
use Rattle.clause_core.specs.Clauses.{written}
use Rattle.enc_theory.specs.Numbering.{sizes_of, places, outputs, f_var}
use Rattle.enc_theory.specs.Families.{operator_raw}
use Rattle.enc_theory.specs.Cuts.{drives, not_idle, row_0}
use Rattle.enc_theory.specs.Select.{choice_var, below, above, chooses, not_these, rising_pair, rising_from, rising_step}
use Rattle.enc_theory.specs.Select.{rising, choosers, used_step, used_steps, equal_choice, negation_pair, negation_from}
use Rattle.enc_theory.specs.Select.{negation_step, trivial_step, trivial_steps, falling_pair, falling_from}
use Rattle.enc_theory.specs.Select.{falling_step, not_falling, different, no_reapplication_operand}
use Rattle.enc_theory.specs.Select.{no_reapplication_operands, no_reapplication_from, no_reapplication_after}
use Rattle.enc_theory.specs.Select.{no_reapplication_step, no_reapplication_steps, chosen_cuts}
use Rattle.enc_laws.specs.Bounds.{f_positive}
use Rattle.clause_core.specs.Holds.{holds, both_hold, each_holds, same, raw_value, raws_bit, raws_bit-append, raws_make}
use Rattle.clause_core.specs.Holds.{holds-written, ArePositive, positive-append, positive-flat_map, contains_head}
use Rattle.clause_core.specs.Holds.{contains_tail, contains_cases, flat_map_make, range_contains, range_inside}
use Rattle.enc_laws.specs.Layouts.{IsStepPlace}
use Rattle.enc_laws.specs.Solves.{there_place, differs_from}
use Rattle.enc_laws.specs.Decoded.{IsFor}
use Rattle.enc_laws.specs.Complete.{step_at, step_there, operator_is}
use Rattle.enc_laws.specs.OwnCuts.{step_index, drives_positive, drives_bit, idle_holds, row_0_holds}
use Rattle.enc_laws.specs.PairTests.{never_both, if_holds, operator_positive}
use Rattle.enc_laws.specs.SelectVars.{IsBelow, choice_positive}
use Rattle.enc_laws.specs.Chooses.{there_below, is_below}
use Rattle.enc_laws.specs.ChosenBits.{operand, IsOfChoices}

-- ---- clauses that exclude operands

-- "not both, or one of these"
unless_both : (a b more : Bool) → (a ≡ true → b ≡ true → more ≡ true) → (not a || (not b || more)) ≡ true
unless_both true true more e = e refl refl
unless_both true false more e = refl
unless_both false b more e = refl

pub these_positive : (z : Dimensions) (i j k : ℕ) → ArePositive (not_these z i j k)
these_positive z i j k = (choice_positive z First i j, (choice_positive z Second i k, tt))

-- the operands of a step, each once
pub different_is : (j k o : ℕ) → Contains (different j k) o → (o ≡ j) ⊎ (o ≡ k)
different_is j k o = (elim (j == k) as (λ b. Contains (if b then j ∷ [] else min j k ∷ max j k ∷ []) o → (o ≡ j) ⊎ (o ≡ k)) [
  | true ↦ λ c. ⊎_elim (λ (e : j ≡ o). inl (sym e)) (λ (none : Contains [] o). absurd (omega (arith, none.1))) (contains_cases j o [] c)
  | false ↦ λ c. ⊎_elim
      (λ (e : min j k ≡ o). ⊎_elim (λ (less : j < k). inl (omega arith)) (λ (more : k ≤ j). inr (omega arith)) (cases_lt j k))
      (λ (later : Contains (max j k ∷ []) o). ⊎_elim
      (λ (e : max j k ≡ o). ⊎_elim (λ (less : j < k). inr (omega arith)) (λ (more : k ≤ j). inl (omega arith)) (cases_lt j k))
      (λ (none : Contains [] o). absurd (omega (arith, none.1)))
      (contains_cases (max j k) o [] later))
      (contains_cases (min j k) o (max j k ∷ []) c)
])

module _ (w : Words) (basis r : ℕ) (c : Chain) (v : Assignment) (choices : IsOfChoices w r c v) (is : IsFor w basis r c) (normal_form : IsNormalForm (members basis) (specification w) c) where
  is_step : (i : ℕ) → IsStepPlace (sizes_of w r) i → IsStep c (i - (c.n + 1)) (step_at c i)
  is_step i place = step_there w basis r c is i place

  -- both operands are these
  has_both : (i j k : ℕ) → IsBelow (sizes_of w r) i j → IsBelow (sizes_of w r) i k →
      v (choice_var (sizes_of w r) First i j) ≡ true → v (choice_var (sizes_of w r) Second i k) ≡ true →
      ((step_at c i).j ≡ j) × ((step_at c i).k ≡ k)
  has_both i j k first second j_true k_true = (choices.only First i j first j_true, choices.only Second i k second k_true)

  -- the operands are others, or another literal is true
  unless_these : (i j k : ℕ) (more : List RawLit) → IsBelow (sizes_of w r) i j → IsBelow (sizes_of w r) i k →
      ((step_at c i).j ≡ j → (step_at c i).k ≡ k → raws_bit v more ≡ true) →
      raws_bit v (not_these (sizes_of w r) i j k ++ more) ≡ true
  unfolding raws_bit raw_value same
  unless_these i j k more first second each =
      unless_both (v (choice_var (sizes_of w r) First i j)) (v (choice_var (sizes_of w r) Second i k)) (raws_bit v more) (λ j_true k_true.
      let (j_is, k_is) = has_both i j k first second j_true k_true in each j_is k_is)

  these_hold : (i j k : ℕ) (more : List RawLit) → IsBelow (sizes_of w r) i j → IsBelow (sizes_of w r) i k →
      ArePositive more → ((step_at c i).j ≡ j → (step_at c i).k ≡ k → raws_bit v more ≡ true) →
      holds v (written (not_these (sizes_of w r) i j k ++ more)) ≡ true
  these_hold i j k more first second positive each =
      holds-written v (not_these (sizes_of w r) i j k ++ more) (choice_positive (sizes_of w r) First i j, (choice_positive (sizes_of w r) Second i k, positive))
      ∙ unless_these i j k more first second each

  -- ---- operands are ordered

  pub rising_holds : holds v (rising basis (sizes_of w r)) ≡ true
  unfolding rising rising_step rising_from rising_pair
  rising_holds =
      let z : Dimensions = sizes_of w r in
      if_holds v (swap_closed (members basis)) (flat_map (rising_step z) (places z)) (λ closed.
      each_holds v (rising_step z) (places z) (λ i in_places. each_holds v (rising_from z i) (below i) (λ j in_below.
      each_holds v (rising_pair z i j) (below j) (λ k in_lower.
      let place = there_place z i in_places in
      let first = is_below z i j place in_below in
      let (k_from, k_to) = there_below j k in_lower in
      let j_to = first.to in
      these_hold i j k [] first (record { place = place; from = k_from; to = omega arith }) tt (λ j_is k_is.
      absurd (let rises = normal_form.operands_rise closed (i - (c.n + 1)) (step_at c i) (is_step i place) in omega arith))))))

  -- ---- each step drives an output or is read

  choosers_positive : (i : ℕ) → ArePositive (flat_map (choosers (sizes_of w r) i) (above (sizes_of w r) i))
  unfolding choosers chooses
  choosers_positive i = positive-flat_map (choosers (sizes_of w r) i) (above (sizes_of w r) i) (λ l c. (choice_positive (sizes_of w r) First l i, (choice_positive (sizes_of w r) Second l i, tt)))

  chooser_there : (side : Side) (p l : ℕ) → Contains (choosers (sizes_of w r) p l) (chooses (sizes_of w r) side l p)
  unfolding choosers
  chooser_there First p l = contains_head (chooses (sizes_of w r) First l p) (chooses (sizes_of w r) Second l p ∷ [])
  chooser_there Second p l = contains_tail (chooses (sizes_of w r) First l p) (chooses (sizes_of w r) Second l p)
      (chooses (sizes_of w r) Second l p ∷ []) (contains_head (chooses (sizes_of w r) Second l p) [])

  chooser_bit : (side : Side) (i l : ℕ) → IsStepPlace (sizes_of w r) l → i < l → operand side (step_at c l) ≡ i → raws_bit v (flat_map (choosers (sizes_of w r) i) (above (sizes_of w r) i)) ≡ true
  unfolding chooses raw_value same
  chooser_bit side i l place less e =
      let z : Dimensions = sizes_of w r in
      let to = place.to in
      raws_make v (flat_map (choosers z i) (above z i)) (Var (choice_var z side l i) true)
      (flat_map_make (choosers z i) (above z i) l (Var (choice_var z side l i) true) (range_contains (i + 1) (w.n + r - i) l (omega arith) (omega arith)) (chooser_there side i l))
      (ap (λ (j : ℕ). v (choice_var z side l j)) (sym e) ∙ choices.has side l place)

  -- the step that reads a place is above it
  pub record IsReader (i : ℕ) (a : Step) : Type 0 where
    pub place : ℕ
    pub is_place : IsStepPlace (sizes_of w r) place
    pub bits_after : i < place
    pub step : step_at c place ≡ a

  reader_is : (i k : ℕ) (a : Step) → IsStep c k a → Reads a i → IsReader i a
  reader_is i k a at reads =
      let low = slice_get_within c.steps k a at in
      let size = is.size in
      let inputs = is.agrees.inputs in
      let bounds = is.is_chain.steps.each k a at in
      let j_below = bounds.j_below in
      let k_below = bounds.k_below in
      let index : c.n + 1 + k - (c.n + 1) ≡ k = omega arith in
      record {
        place = c.n + 1 + k;
        is_place = record { from = omega arith; to = omega arith };
        bits_after = ⊎_elim (λ (e : a.j ≡ i). omega arith) (λ (e : a.k ≡ i). omega arith) reads;
        step = ap (λ (x : ℕ). get_or c.steps x (record { j = 1; k = 1; op = 0 })) index ∙ get_or_from_slice_get c.steps k a (record { j = 1; k = 1; op = 0 }) at;
      }

  read_bit : (i : ℕ) → IsRead c i → raws_bit v (flat_map (choosers (sizes_of w r) i) (above (sizes_of w r) i)) ≡ true
  read_bit i (k, a, at, reads) =
      let reader = reader_is i k a at reads in
      ⊎_elim
      (λ (first : a.j ≡ i). chooser_bit First i reader.place reader.is_place reader.bits_after (ap (λ (s : Step). s.j) reader.step ∙ first))
      (λ (second : a.k ≡ i). chooser_bit Second i reader.place reader.is_place reader.bits_after (ap (λ (s : Step). s.k) reader.step ∙ second))
      reads

  pub used_steps_hold : holds v (used_steps (sizes_of w r)) ≡ true
  unfolding used_steps used_step
  used_steps_hold =
      let z : Dimensions = sizes_of w r in
      each_holds v (used_step z) (places z) (λ i in_places.
      let place = there_place z i in_places in
      let outs : List RawLit = map (drives z i) (outputs z) in
      let readers : List RawLit = flat_map (choosers z i) (above z i) in
      let index = step_index w basis r c is i place in
      holds-written v (outs ++ readers) (positive-append outs readers (drives_positive z i place) (choosers_positive i))
      ∙ raws_bit-append v outs readers
      ∙ ⊎_elim
      (λ (out : IsOut c (c.n + 1 + (i - (c.n + 1)))). or_left (raws_bit v outs) (raws_bit v readers) (drives_bit w basis r c v choices.of is i place (subst (IsOut c) index out)))
      (λ (read : IsRead c (c.n + 1 + (i - (c.n + 1)))). or_right (raws_bit v outs) (raws_bit v readers) (read_bit i (subst (IsRead c) index read)))
      (normal_form.used (i - (c.n + 1)) (step_at c i) (is_step i place)))

  -- ---- no step is trivial

  -- one more literal, or two
  one_bit : (x : ℕ) (bit : Bool) → same (v x) bit ≡ true → raws_bit v (Var x bit ∷ []) ≡ true
  unfolding raws_bit raw_value
  one_bit x bit e = or_left (same (v x) bit) false e

  not_zero_one : (low high : Bool) → (low ≡ false → high ≡ true → ⊥) → (low || (not high || false)) ≡ true
  not_zero_one true high never = refl
  not_zero_one false true never = absurd (never refl refl)
  not_zero_one false false never = refl

  equal_holds : (i j : ℕ) (constants : Bool) → IsBelow (sizes_of w r) i j → const_closed (members basis) ≡ constants → holds v (equal_choice constants (sizes_of w r) i j) ≡ true
  unfolding equal_choice raws_bit raw_value same
  equal_holds i j true at closed =
      let z : Dimensions = sizes_of w r in
      let negates : (step_at c i).j ≡ j → (step_at c i).k ≡ j → NegatesBoth (step_at c i).op =
      λ j_is k_is. normal_form.equal_negate closed (i - (c.n + 1)) (step_at c i) (is_step i at.place) (j_is
      ∙ sym k_is) in
      both_hold v (written (not_these z i j j ++ Var (f_var z i false false) true ∷ [])) (written (not_these z i j j ++ Var (f_var z i true true) false ∷ []))
      (these_hold i j j (Var (f_var z i false false) true ∷ []) at at (f_positive z i false false, tt) (λ j_is k_is.
      one_bit (f_var z i false false) true (choices.of.operators i false false at.place ∙ (negates j_is k_is).0)))
      (these_hold i j j (Var (f_var z i true true) false ∷ []) at at (f_positive z i true true, tt) (λ j_is k_is.
      one_bit (f_var z i true true) false (ap not (choices.of.operators i true true at.place
      ∙ (negates j_is k_is).1))))
  equal_holds i j false at closed =
      let z : Dimensions = sizes_of w r in
      these_hold i j j (Var (f_var z i false false) true ∷ Var (f_var z i true true) false ∷ []) at at (f_positive z i false false, (f_positive z i true true, tt)) (λ j_is k_is.
      not_zero_one (v (f_var z i false false)) (v (f_var z i true true)) (λ low high.
      normal_form.equal_no_copy (i - (c.n + 1)) (step_at c i) (is_step i at.place) (j_is ∙ sym k_is)
      (sym (choices.of.operators i false false at.place) ∙ low, sym (choices.of.operators i true true at.place) ∙ high)))

  differ_bit : (i j k : ℕ) → IsBelow (sizes_of w r) i j → IsBelow (sizes_of w r) i k → ((step_at c i).j ≡ j → (step_at c i).k ≡ k → ⊥) → raws_bit v (not_these (sizes_of w r) i j k) ≡ true
  differ_bit i j k first second never = unless_these i j k [] first second (λ j_is k_is. absurd (never j_is k_is))

  negation_pair_holds : (i op j k : ℕ) → op < 16 → IsNegation op → IsBelow (sizes_of w r) i j → IsBelow (sizes_of w r) i k → holds v (negation_pair (sizes_of w r) i op j k) ≡ true
  unfolding negation_pair holds
  negation_pair_holds i op j k low negation first second =
      let z : Dimensions = sizes_of w r in
      let raws : List RawLit = operator_raw z i op in
      let these : List RawLit = not_these z i j k in
      ⊎_elim
      (λ (equal : (j == k) ≡ true). rw equal refl)
      (λ (apart : (j == k) ≡ false). rw apart
      (holds-written v (operator_raw z i op ++ not_these z i j k) (positive-append (operator_raw z i op) (not_these z i j k) (operator_positive z i op) (these_positive z i j k))
      ∙ raws_bit-append v raws these
      ∙ ⊎_elim
      (λ (is_op : (step_at c i).op ≡ op). or_right (raws_bit v raws) (raws_bit v these) (differ_bit i j k first second (λ j_is k_is.
      let equal = normal_form.negation_of_equal (i - (c.n + 1)) (step_at c i) (is_step i first.place) (subst IsNegation (sym is_op) negation) in
      both_ways (j == k) apart (eq-eqb j k (sym j_is ∙ equal ∙ k_is)))))
      (λ (other : (step_at c i).op ≡ op → ⊥). or_left (raws_bit v raws) (raws_bit v these)
      (sym (holds-written v (operator_raw z i op) (operator_positive z i op)) ∙ differs_from z v i op low (λ e. other (operator_is w basis r c v choices.of is i first.place ∙ sym e))))
      (cases_eq (step_at c i).op op)))
      (cases_Bool (j == k))

  negation_step_holds : (i op : ℕ) → op < 16 → IsNegation op → IsStepPlace (sizes_of w r) i → holds v (negation_step basis (sizes_of w r) i op) ≡ true
  unfolding negation_step negation_from
  negation_step_holds i op low negation place =
      let z : Dimensions = sizes_of w r in
      if_holds v (members basis op) (flat_map (negation_from z i op) (below i)) (λ member.
      each_holds v (negation_from z i op) (below i) (λ j in_below. each_holds v (negation_pair z i op j) (below i)
      (λ k in_below'.
      negation_pair_holds i op j k low negation (is_below z i j place in_below) (is_below z i k place in_below'))))

  pub trivial_steps_hold : holds v (trivial_steps basis (sizes_of w r)) ≡ true
  unfolding trivial_steps trivial_step holds
  trivial_steps_hold =
      let z : Dimensions = sizes_of w r in
      let constants : Bool = const_closed (members basis) in
      each_holds v (trivial_step constants basis z) (places z) (λ i in_places.
      let place = there_place z i in_places in
      both_hold v (not_idle constants basis z i ++ flat_map (equal_choice constants z i) (below i)) (flat_map (negation_step basis z i) (10 ∷ 12 ∷ []))
      (both_hold v (not_idle constants basis z i) (flat_map (equal_choice constants z i) (below i))
      (idle_holds w basis r c v choices.of is normal_form i constants place refl)
      (each_holds v (equal_choice constants z i) (below i) (λ j in_below. equal_holds i j constants (is_below z i j place in_below) refl)))
      (both_hold v (negation_step basis z i 10) (negation_step basis z i 12 ++ []) (negation_step_holds i 10 (omega arith) (inr refl) place)
      (both_hold v (negation_step basis z i 12) [] (negation_step_holds i 12 (omega arith) (inl refl) place) refl)))

  -- ---- second operands never decrease

  falling_pair_holds : (i k l : ℕ) → swap_closed (members basis) ≡ true → IsStepPlace (sizes_of w r) i →
      IsStepPlace (sizes_of w r) (i + 1) → 1 ≤ l → l < k → k < i → holds v (falling_pair (sizes_of w r) i k l) ≡ true
  unfolding falling_pair raws_bit raw_value same
  falling_pair_holds i k l closed place next some less low =
      let z : Dimensions = sizes_of w r in
      let a : Step = step_at c i in
      let b : Step = step_at c (i + 1) in
      let from = place.from in
      let inputs = is.agrees.inputs in
      let index : i + 1 - (c.n + 1) ≡ i - (c.n + 1) + 1 = omega arith in
      let at : IsStep c (i - (c.n + 1)) (step_at c i) = is_step i place in
      let at' : IsStep c (i + 1 - (c.n + 1)) (step_at c (i + 1)) = is_step (i + 1) next in
      holds-written v (Var (choice_var z Second i k) false ∷ Var (choice_var z Second (i + 1) l) false ∷ []) (choice_positive z Second i k, (choice_positive z Second (i + 1) l, tt))
      ∙ never_both (v (choice_var z Second i k)) (v (choice_var z Second (i + 1) l)) (λ k_true l_true.
      let k_is : (step_at c i).k ≡ k = choices.only Second i k (record { place = place; from = omega arith; to = low }) k_true in
      let l_is : (step_at c (i + 1)).k ≡ l = choices.only Second (i + 1) l (record { place = next; from = some; to = omega arith }) l_true in
      let rises : (step_at c i).j ≤ (step_at c i).k = normal_form.operands_rise closed (i - (c.n + 1)) (step_at c i) at in
      let rises' : (step_at c (i + 1)).j ≤ (step_at c (i + 1)).k = normal_form.operands_rise closed (i + 1 - (c.n + 1)) (step_at c (i + 1)) at' in
      normal_form.in_order (i - (c.n + 1)) (step_at c i) (step_at c (i + 1)) at (subst (λ (x : ℕ). IsStep c x (step_at c (i + 1))) index at') (inl (omega arith)))

  pub falling_holds : holds v (not_falling basis (sizes_of w r)) ≡ true
  unfolding not_falling falling_step falling_from
  falling_holds =
      let z : Dimensions = sizes_of w r in
      if_holds v (swap_closed (members basis)) (flat_map (falling_step z) (range_with_len (w.n + 1) (r - 1)))
      (λ closed. each_holds v (falling_step z) (range_with_len (w.n + 1) (r - 1)) (λ i in_places.
      let (from, to) = range_inside (w.n + 1) (r - 1) i in_places in
      each_holds v (falling_from z i) (below i) (λ k in_below. each_holds v (falling_pair z i k) (below k) (λ l in_lower.
      let (k_from, k_to) = there_below i k in_below in
      let (l_from, l_to) = there_below k l in_lower in
      falling_pair_holds i k l closed (record { from = from; to = omega arith }) (record { from = omega arith; to = omega arith }) l_from l_to k_to))))

  -- ---- no re-application

  no_reapplication_never : (i l : ℕ) → reapply_closed (members basis) ≡ true → IsStepPlace (sizes_of w r) i → IsStepPlace (sizes_of w r) l → i < l → IsReapplication i (step_at c i) (step_at c l) → ⊥
  no_reapplication_never i l closed place later less no_reapplication =
      let from = place.from in
      let inputs = is.agrees.inputs in
      normal_form.not_again closed (i - (c.n + 1)) (l - (c.n + 1)) (step_at c i) (step_at c l) (omega arith) (is_step i place) (is_step l later)
      (subst (λ (p : ℕ). IsReapplication p (step_at c i) (step_at c l)) (sym (step_index w basis r c is i place)) no_reapplication)

  -- one of the operands is read there
  reads_one : (i j k o : ℕ) → (o ≡ j) ⊎ (o ≡ k) → (step_at c i).j ≡ j → (step_at c i).k ≡ k → Reads (step_at c i) o
  reads_one i j k o (inl e) j_is k_is = inl (j_is ∙ sym e)
  reads_one i j k o (inr e) j_is k_is = inr (k_is ∙ sym e)

  no_reapplication_operand_holds : (ordered : Bool) (i l j k o : ℕ) → reapply_closed (members basis) ≡ true →
      IsStepPlace (sizes_of w r) l → i < l → IsBelow (sizes_of w r) i j → IsBelow (sizes_of w r) i k → (o ≡ j) ⊎
      (o ≡ k) → holds v (no_reapplication_operand ordered (sizes_of w r) i l j k o) ≡ true
  unfolding no_reapplication_operand holds
  no_reapplication_operand_holds ordered i l j k o closed later less first second one =
      let z : Dimensions = sizes_of w r in
      let place = first.place in
      let from = place.from in
      let j_from = first.from in
      let j_to = first.to in
      let k_from = second.from in
      let k_to = second.to in
      let o_from : 1 ≤ o = ⊎_elim (λ (e : o ≡ j). omega arith) (λ (e : o ≡ k). omega arith) one in
      let o_to : o < i = ⊎_elim (λ (e : o ≡ j). omega arith) (λ (e : o ≡ k). omega arith) one in
      let o_below : IsBelow (sizes_of w r) l o = record { place = later; from = o_from; to = omega arith } in
      let i_below : IsBelow (sizes_of w r) l i = record { place = later; from = omega arith; to = less } in
      both_hold v (written (not_these z i j k ++ not_these z l o i)) (if ordered then [] else written (not_these z i j k ++ not_these z l i o))
      (these_hold i j k (not_these z l o i) first second (these_positive z l o i) (λ j_is k_is. differ_bit l o i o_below i_below (λ o_is i_is.
      no_reapplication_never i l closed place later less (inr (i_is, subst (Reads (step_at c i)) (sym o_is) (reads_one i j k o one j_is k_is))))))
      (elim ordered as (λ b. holds v (if b then [] else written (not_these z i j k ++ not_these z l i o)) ≡ true) [
        | true ↦ refl
        | false ↦ these_hold i j k (not_these z l i o) first second (these_positive z l i o) (λ j_is k_is. differ_bit l i o i_below o_below (λ i_is o_is.
            no_reapplication_never i l closed place later less (inl (i_is, subst (Reads (step_at c i)) (sym o_is) (reads_one i j k o one j_is k_is)))))
      ])

  unless_holds : (test : Bool) (clauses : List (List ℤ)) → holds v clauses ≡ true → holds v (if test then [] else clauses) ≡ true
  unfolding holds
  unless_holds true clauses all = refl
  unless_holds false clauses all = all

  pub no_reapplication_steps_hold : holds v (no_reapplication_steps basis (sizes_of w r)) ≡ true
  unfolding no_reapplication_steps no_reapplication_step no_reapplication_after no_reapplication_from no_reapplication_operands
  no_reapplication_steps_hold =
      let z : Dimensions = sizes_of w r in
      let ordered : Bool = swap_closed (members basis) in
      if_holds v (reapply_closed (members basis)) (flat_map (no_reapplication_step ordered z) (places z)) (λ closed.
      each_holds v (no_reapplication_step ordered z) (places z) (λ i in_places.
      each_holds v (no_reapplication_after ordered z i) (above z i) (λ l in_above.
      each_holds v (no_reapplication_from ordered z i l) (below i) (λ j in_below.
      each_holds v (no_reapplication_operands ordered z i l j) (below i) (λ k in_below'.
      let place = there_place z i in_places in
      let from = place.from in
      let to = place.to in
      let (l_from, l_to) = range_inside (i + 1) (w.n + r - i) l in_above in
      unless_holds (ordered && nat_lt k j) (flat_map (no_reapplication_operand ordered z i l j k) (different j k))
      (each_holds v (no_reapplication_operand ordered z i l j k) (different j k) (λ o in_operands.
      no_reapplication_operand_holds ordered i l j k o closed (record { from = omega arith; to = omega arith })
      (omega arith) (is_below z i j place in_below) (is_below z i k place in_below')
      (different_is j k o in_operands))))))))

  -- ---- all constraints

  -- The assignment of a chain in normal form satisfies all constraints.
  pub chosen_cuts_hold : holds v (chosen_cuts basis (sizes_of w r)) ≡ true
  unfolding chosen_cuts
  chosen_cuts_hold =
      let z : Dimensions = sizes_of w r in
      both_hold v _ (row_0 basis z)
      (both_hold v _ (no_reapplication_steps basis z)
      (both_hold v _ (not_falling basis z)
      (both_hold v _ (trivial_steps basis z)
      (both_hold v (rising basis z) (used_steps z) rising_holds used_steps_hold)
      trivial_steps_hold)
      falling_holds)
      no_reapplication_steps_hold)
      (row_0_holds w basis r c v choices.of is normal_form)
