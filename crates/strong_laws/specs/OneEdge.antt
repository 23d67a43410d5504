-- The clauses of an edge are true where its variables say which steps differ.
use Rattle.std.proofs.Common.{◌≡◌, ◌⊎◌, ℕ, ◌+◌, ◌-◌, ◌<◌, ◌≤◌, ◌==◌, Bool, true, false, not, ◌||◌, List, [], ◌∷◌, ◌++◌, length, Contains, refl, sym, ap, ◌∙◌, subst, arith, inl, inr, ⊎_elim}
use Rattle.std.specs.Prelude.{if◌then◌else◌}
use Rattle.std.specs.List.{flat_map}
use Rattle.std.proofs.lemmas.Bool.{cases_Bool, cases_lt, or_parts, eqb-true, le-leb, lt-leb, both_ways, true_from_ne_false}
use Rattle.chain_theory.specs.Chain.{Step, Chain}
use Rattle.chain_theory.specs.Value.{value}
use Rattle.chain_laws.specs.NormalForm.{Reads}
use Rattle.sat_theory.specs.Formula.{Assignment}
use Rattle.tt_core.specs.Words.{Words}
use Rattle.clause_core.specs.declared.raw.RawLit.{RawLit}
use Rattle.clause_core.specs.declared.raw.RawLit.TheVariants.{Var}
use Rattle.clause_core.specs.Clauses.{written}
use Rattle.clause_core.specs.Holds.{holds, both_hold, each_holds, same, raw_value, raws_bit, raws_make, holds-written}
use Rattle.clause_core.specs.Holds.{IsPositive, ArePositive, positive-flat_map, flat_map_make, contains_head}
use Rattle.enc_theory.specs.declared.data.Dimensions.{Dimensions}
use Rattle.enc_theory.specs.declared.data.Slot.{Slot}
use Rattle.enc_theory.specs.Numbering.{sizes_of, x_is}
use Rattle.enc_theory.specs.Pairs.{StepSlots}
use Rattle.enc_theory.specs.Families.{chosen}
use Rattle.enc_theory.specs.Cuts.{reads, reader, readers}
use Rattle.enc_laws.specs.Layouts.{IsStepPlace, IsSlotOf, laid_is_place}
use Rattle.enc_laws.specs.Solves.{x_is_positive, x_is_value}
use Rattle.enc_laws.specs.Complete.{step_at, HasStepOuts}
use Rattle.enc_laws.specs.Rests.{IsPlaced}
use Rattle.enc_laws.specs.PairTests.{if_holds, implies_bit, reads_test}
use Rattle.enc_laws.specs.Cuts.{is_step, step_slots}
use Rattle.strong_theory.specs.declared.data.Edge.{Edge}
use Rattle.strong_theory.specs.Strong.{d_var, differs, value_differs, values_differ, operand_differs, other_readers, sole_reader, or_others, edge_step, edge_steps}
use Rattle.strong_laws.specs.EdgeLaws.{IsEdge}
use Rattle.strong_laws.specs.Differing.{input_same, step_same, some_reader_differs}
use Rattle.strong_laws.specs.Bits.{differs_on, same_on, on_same}
use Rattle.strong_laws.specs.Said.{Says}

-- ---- bits

-- a clause of two values and whether they differ
value_bits : (x y a b : Bool) → (same x (not a) || (same y (not b) || (same (if x then not y else y) (if a then not b else b) || false))) ≡ true
unfolding same
value_bits true true true true = refl
value_bits true true true false = refl
value_bits true true false true = refl
value_bits true true false false = refl
value_bits true false true true = refl
value_bits true false true false = refl
value_bits true false false true = refl
value_bits true false false false = refl
value_bits false true true true = refl
value_bits false true true false = refl
value_bits false true false true = refl
value_bits false true false false = refl
value_bits false false true true = refl
value_bits false false true false = refl
value_bits false false false true = refl
value_bits false false false false = refl

three_same : (x x' y y' d d' : Bool) → x ≡ x' → y ≡ y' → d ≡ d' → (x || (y || (d || false))) ≡ (x' || (y' || (d' || false)))
three_same x x' y y' d d' ex ey ed = rw (ex, ey, ed) refl

-- two bits that imply one of two others
one_of_two : (d s a b : Bool) → (d ≡ true → s ≡ true → (a ≡ true) ⊎ (b ≡ true)) → (not d || (not s || (a || (b || false)))) ≡ true
one_of_two false s a b e = refl
one_of_two true false a b e = refl
one_of_two true true true b e = refl
one_of_two true true false true e = refl
one_of_two true true false false e = ⊎_elim (λ (x : false ≡ true). x) (λ (x : false ≡ true). x) (e refl refl)

-- the variables of an edge come after those before it
pub d_above : (z : Dimensions) (before i : ℕ) → IsStepPlace z i → before < d_var z before i
unfolding d_var
d_above z before i is = let from = is.from in omega arith

module _ (w : Words) (basis r : ℕ) (steps : List StepSlots) (c : Chain) (v : Assignment) (placed : IsPlaced w basis r steps c)
    (outs : HasStepOuts c (length w.on)) (says : Says w r steps c v) (e : Edge) (before : ℕ) (is_edge : IsEdge w e)
    (d_is : (i : ℕ) → IsStepPlace (sizes_of w r) i → v (d_var (sizes_of w r) before i) ≡ differs_on c e i) where
  d_positive : (i : ℕ) → IsStepPlace (sizes_of w r) i → 1 ≤ d_var (sizes_of w r) before i
  d_positive i is = omega (arith, d_above (sizes_of w r) before i is)

  differs_positive : (p : ℕ) → p < w.n + 1 + r → IsPositive (differs (sizes_of w r) e before p)
  unfolding differs
  differs_positive p low = ⊎_elim
      (λ (step : w.n < p). rw (lt-leb p w.n step) (d_positive p (record { from = omega arith; to = low })))
      (λ (inp : p ≤ w.n). rw (le-leb p w.n inp) tt)
      (cases_lt w.n p)

  -- the literal of a place that differs is true
  differs_or_same : (p : ℕ) → 1 ≤ p → p < w.n + 1 + r → (raw_value v (differs (sizes_of w r) e before p) ≡ true) ⊎ (value c e.low p ≡ value c e.high p)
  unfolding differs raw_value same
  differs_or_same p some low = ⊎_elim
      (λ (step : w.n < p). rw (lt-leb p w.n step) (⊎_elim
      (λ (d : v (d_var (sizes_of w r) before p) ≡ true). inl d)
      (λ (d : v (d_var (sizes_of w r) before p) ≡ false).
      inr (same_on (value c e.low p) (value c e.high p) (sym (d_is p (record { from = omega arith; to = low })) ∙ d)))
      (cases_Bool (v (d_var (sizes_of w r) before p)))))
      (λ (inp : p ≤ w.n). rw (le-leb p w.n inp) (⊎_elim
      (λ (own : (p == e.input) ≡ true). inl own)
      (λ (other : (p == e.input) ≡ false). inr (input_same w basis r c placed.is e is_edge p inp some other))
      (cases_Bool (p == e.input))))
      (cases_lt w.n p)

  -- ---- the variables say which steps differ

  value_holds : (i : ℕ) (a b : Bool) → IsStepPlace (sizes_of w r) i → holds v (value_differs (sizes_of w r) e before i a b) ≡ true
  unfolding value_differs raws_bit raw_value
  value_holds i a b is =
      let to = is.to in
      holds-written v (x_is (sizes_of w r) i e.low (not a) ∷ x_is (sizes_of w r) i e.high (not b) ∷ Var (d_var (sizes_of w r) before i) (if a then not b else b) ∷ [])
      (x_is_positive (sizes_of w r) i e.low (not a), (x_is_positive (sizes_of w r) i e.high (not b), (d_positive i is, tt)))
      ∙ three_same (raw_value v (x_is (sizes_of w r) i e.low (not a))) (same (value c e.low i) (not a))
      (raw_value v (x_is (sizes_of w r) i e.high (not b))) (same (value c e.high i) (not b))
      (same (v (d_var (sizes_of w r) before i)) (if a then not b else b)) (same (differs_on c e i) (if a then not b else b))
      (x_is_value (sizes_of w r) v i e.low (not a) ∙ ap (λ (x : Bool). same x (not a)) (says.bits i e.low to is_edge.low))
      (x_is_value (sizes_of w r) v i e.high (not b) ∙ ap (λ (x : Bool). same x (not b)) (says.bits i e.high to is_edge.high))
      (ap (λ (x : Bool). same x (if a then not b else b)) (d_is i is))
      ∙ value_bits (value c e.low i) (value c e.high i) a b

  values_hold : (i : ℕ) → IsStepPlace (sizes_of w r) i → holds v (values_differ (sizes_of w r) e before i) ≡ true
  unfolding values_differ
  values_hold i is =
      let four : (a b : Bool) → holds v (value_differs (sizes_of w r) e before i a b) ≡ true = λ a b. value_holds i a b is in
      both_hold v _ (value_differs (sizes_of w r) e before i true true)
      (both_hold v _ (value_differs (sizes_of w r) e before i true false)
      (both_hold v (value_differs (sizes_of w r) e before i false false) (value_differs (sizes_of w r) e before i false true)
      (four false false) (four false true)) (four true false)) (four true true)

  -- ---- a step that differs has an operand that does

  operand_true : (s : StepSlots) (u : Slot) → IsSlotOf steps s u → IsStepPlace (sizes_of w r) s.place → v (d_var (sizes_of w r) before s.place) ≡ true → v u.var ≡ true →
      (raw_value v (differs (sizes_of w r) e before u.j) ≡ true) ⊎ (raw_value v (differs (sizes_of w r) e before u.k) ≡ true)
  operand_true s u slot place d chosen_ =
      let to = place.to in
      let below = placed.laid.below s u slot in
      let j_below = below.j_below in
      let k_below = below.k_below in
      let (j, k) = says.pairs s u slot chosen_ in
      ⊎_elim
      (λ (first : raw_value v (differs (sizes_of w r) e before u.j) ≡ true). inl first)
      (λ (j_same : value c e.low u.j ≡ value c e.high u.j). ⊎_elim
      (λ (second : raw_value v (differs (sizes_of w r) e before u.k) ≡ true). inr second)
      (λ (k_same : value c e.low u.k ≡ value c e.high u.k). absurd (both_ways (v (d_var (sizes_of w r) before s.place))
      (d_is s.place place ∙ on_same (value c e.low s.place) (value c e.high s.place)
      (step_same w basis r c placed.is e is_edge s.place place
      (subst (λ (p : ℕ). value c e.low p ≡ value c e.high p) j j_same)
      (subst (λ (p : ℕ). value c e.low p ≡ value c e.high p) k k_same))) d))
      (differs_or_same u.k below.k_from (omega arith)))
      (differs_or_same u.j below.j_from (omega arith))

  operand_holds : (s : StepSlots) (u : Slot) → IsSlotOf steps s u → holds v (operand_differs (sizes_of w r) e before s.place u) ≡ true
  unfolding operand_differs raws_bit raw_value same
  operand_holds s u slot =
      let place : IsStepPlace (sizes_of w r) s.place = laid_is_place (sizes_of w r) steps s placed.laid slot.step in
      let to = place.to in
      let below = placed.laid.below s u slot in
      let j_below = below.j_below in
      let k_below = below.k_below in
      holds-written v (Var (d_var (sizes_of w r) before s.place) false ∷ Var u.var false ∷ differs (sizes_of w r) e before u.j ∷ differs (sizes_of w r) e before u.k ∷ [])
      (d_positive s.place place, (says.positive s u slot, (differs_positive u.j (omega arith), (differs_positive u.k (omega arith), tt))))
      ∙ one_of_two (v (d_var (sizes_of w r) before s.place)) (v u.var) (raw_value v (differs (sizes_of w r) e before u.j)) (raw_value v (differs (sizes_of w r) e before u.k))
      (λ d chosen_. operand_true s u slot place d chosen_)

  -- ---- the only reader of the edge's input differs

  reader_there : (j : ℕ) (u : Slot) → reads u j ≡ true → Contains (reader j u) (chosen u)
  unfolding reader
  reader_there j u e' = rw e' (contains_head (chosen u) [])

  other_there : (i : ℕ) (s : StepSlots) (u : Slot) → Contains steps s → Contains s.slots u → (s.place == i) ≡ false →
      reads u e.input ≡ true → Contains (flat_map (other_readers i e.input) steps) (chosen u)
  unfolding other_readers readers
  other_there i s u in_steps in_slots other reading =
      flat_map_make (other_readers i e.input) steps s (chosen u) in_steps
      (rw other (flat_map_make (reader e.input) s.slots u (chosen u) in_slots (reader_there e.input u reading)))

  other_positive : (i : ℕ) → ArePositive (flat_map (other_readers i e.input) steps)
  unfolding other_readers readers reader chosen
  other_positive i = positive-flat_map (other_readers i e.input) steps (λ s in_steps.
      positive_if (s.place == i) (flat_map (reader e.input) s.slots)
      (positive-flat_map (reader e.input) s.slots (λ u in_slots.
      if_positive (reads u e.input) (Var u.var true) (says.positive s u record { step = in_steps; slot = in_slots }))))
    where
      positive_if : (test : Bool) (raws : List RawLit) → ArePositive raws → ArePositive (if test then [] else raws)
      positive_if true raws are = tt
      positive_if false raws are = are

      if_positive : (test : Bool) (raw : RawLit) → IsPositive raw → ArePositive (if test then raw ∷ [] else [])
      if_positive true raw is = (is, tt)
      if_positive false raw is = tt

  or_positive : (i : ℕ) → IsStepPlace (sizes_of w r) i → ArePositive (or_others (sizes_of w r) steps e before i)
  unfolding or_others
  or_positive i place = (d_positive i place, other_positive i)

  -- if the step doesn't differ and no other step has a pair with the input, no reader differs
  readers_same : (i : ℕ) → IsStepPlace (sizes_of w r) i → v (d_var (sizes_of w r) before i) ≡ false → raws_bit v (flat_map (other_readers i e.input) steps) ≡ false →
      (i' : ℕ) → IsStepPlace (sizes_of w r) i' → Reads (step_at c i') e.input → value c e.low i' ≡ value c e.high i'
  unfolding chosen raw_value same
  readers_same i place d none i' place' reading = ⊎_elim
      (λ (own : (i' == i) ≡ true). subst (λ (p : ℕ). value c e.low p ≡ value c e.high p) (sym (eqb-true i' i own))
      (same_on (value c e.low i) (value c e.high i) (sym (d_is i place) ∙ d)))
      (λ (other : (i' == i) ≡ false).
      let inputs = placed.is.agrees.inputs in
      let from = place'.from in
      let (s, in_steps, s_place, s_step) = step_slots w basis r steps c placed (i' - (c.n + 1)) (step_at c i') (is_step w basis r steps c placed i' place') in
      let at : s.place ≡ i' = omega arith in
      let (u, in_slots, j, k, true_) = says.has s in_steps in
      absurd (both_ways (raws_bit v (flat_map (other_readers i e.input) steps)) none
      (raws_make v (flat_map (other_readers i e.input) steps) (chosen u)
      (other_there i s u in_steps in_slots (ap (λ (p : ℕ). p == i) at ∙ other)
      (reads_test u (step_at c i') e.input (j ∙ ap (λ (a : Step). a.j) s_step) (k ∙ ap (λ (a : Step). a.k) s_step) reading)) true_)))
      (cases_Bool (i' == i))

  or_others_true : (i : ℕ) → IsStepPlace (sizes_of w r) i → raws_bit v (or_others (sizes_of w r) steps e before i) ≡ true
  unfolding or_others raws_bit raw_value same
  or_others_true i place = true_from_ne_false (raws_bit v (or_others (sizes_of w r) steps e before i)) (λ none.
      let (d, others) = or_parts (v (d_var (sizes_of w r) before i)) (raws_bit v (flat_map (other_readers i e.input) steps)) none in
      some_reader_differs w basis r c placed.is e is_edge outs (readers_same i place d others))

  sole_true : (s : StepSlots) (u : Slot) → IsSlotOf steps s u → IsStepPlace (sizes_of w r) s.place → holds v (written (Var u.var false ∷ or_others (sizes_of w r) steps e before s.place)) ≡ true
  unfolding raws_bit raw_value same
  sole_true s u slot place =
      holds-written v (Var u.var false ∷ or_others (sizes_of w r) steps e before s.place) (says.positive s u slot, or_positive s.place place)
      ∙ implies_bit (v u.var) (raws_bit v (or_others (sizes_of w r) steps e before s.place)) (λ true_. or_others_true s.place place)

  sole_holds : (s : StepSlots) (u : Slot) → IsSlotOf steps s u → holds v (sole_reader e.input (or_others (sizes_of w r) steps e before s.place) u) ≡ true
  unfolding sole_reader
  sole_holds s u slot =
      let place : IsStepPlace (sizes_of w r) s.place = laid_is_place (sizes_of w r) steps s placed.laid slot.step in
      if_holds v (reads u e.input) (written (Var u.var false ∷ or_others (sizes_of w r) steps e before s.place)) (λ reading.
      sole_true s u slot place)

  -- ---- all clauses of the edge

  step_holds : (s : StepSlots) → Contains steps s → holds v (edge_step (sizes_of w r) steps e before s) ≡ true
  unfolding edge_step
  step_holds s in_steps =
      let place : IsStepPlace (sizes_of w r) s.place = laid_is_place (sizes_of w r) steps s placed.laid in_steps in
      both_hold v (values_differ (sizes_of w r) e before s.place ++ flat_map (operand_differs (sizes_of w r) e before s.place) s.slots)
      (flat_map (sole_reader e.input (or_others (sizes_of w r) steps e before s.place)) s.slots)
      (both_hold v (values_differ (sizes_of w r) e before s.place) (flat_map (operand_differs (sizes_of w r) e before s.place) s.slots)
      (values_hold s.place place)
      (each_holds v (operand_differs (sizes_of w r) e before s.place) s.slots (λ u in_slots. operand_holds s u record { step = in_steps; slot = in_slots })))
      (each_holds v (sole_reader e.input (or_others (sizes_of w r) steps e before s.place)) s.slots (λ u in_slots. sole_holds s u record { step = in_steps; slot = in_slots }))

  pub edge_holds : holds v (edge_steps (sizes_of w r) steps e before) ≡ true
  unfolding edge_steps
  edge_holds = each_holds v (edge_step (sizes_of w r) steps e before) steps step_holds
