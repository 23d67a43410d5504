-- A chain that implements the tables gives an assignment that satisfies the clauses.
use Rattle.std.proofs.Common.{◌≡◌, ℕ, ◌+◌, ◌-◌, ◌^◌, ◌<◌, ◌≤◌, ◌==◌, Bool, true, false, ◌&&◌, List, length, get_or, Some, Contains, refl, sym, ap, ◌∙◌, subst, arith, ⊎_elim}
use Rattle.std.specs.Prelude.{slice_get}
use Rattle.std.specs.List.{list_any}
use Rattle.std.proofs.lemmas.Bool.{cases_lt, and_from, and_parts, eqb-true, eq-eqb}
use Rattle.std.proofs.lemmas.Option.{slice_get-get_or}
use Rattle.chain_theory.specs.Operator.{apply}
use Rattle.chain_theory.specs.Specification.{input}
use Rattle.chain_theory.specs.Chain.{Step, Chain, IsStepAt}
use Rattle.chain_theory.specs.Value.{value, out_value}
use Rattle.chain_theory.specs.ValueLaws.{value-input, value-step}
use Rattle.chain_theory.specs.Agreement.{is_met}
use Rattle.chain_theory.specs.declared.data.Out.{Out}
use Rattle.chain_theory.specs.declared.data.Out.TheVariants.{Zero, One, Place}
use Rattle.op_basis.specs.Basis.{members}
use Rattle.op_basis.specs.Laws.{operator_only}
use Rattle.sat_theory.specs.Formula.{Assignment}
use Rattle.tt_core.specs.Words.{Words, cell_of}
use Rattle.enc_theory.specs.declared.data.Dimensions.{Dimensions}
use Rattle.enc_theory.specs.declared.data.Slot.{Slot}
use Rattle.enc_theory.specs.Numbering.{sizes_of, x_var, g_var, f_var, s_first}
use Rattle.enc_theory.specs.Pairs.{StepSlots}
use Rattle.enc_theory.specs.Decode.{operator_in}
use Rattle.clause_core.specs.Holds.{any_get, any_make}
use Rattle.enc_laws.specs.Layouts.{IsStepPlace, IsSlotOf, IsLaid, HasSlot, IsSameSlot, laid_is_place}
use Rattle.enc_laws.specs.Live.{out_at, IsStepOut}
use Rattle.enc_laws.specs.Solves.{x_bit, MeetsTables, Solves}
use Rattle.enc_laws.specs.Sound.{x_bit-input, x_bit-step}
use Rattle.enc_laws.specs.Built.{built, built_x, built_g, built_f, built_s}
use Rattle.enc_laws.specs.Decoded.{IsFor}

-- the step at a place
abbrev pub step_at : Chain → ℕ → Step
step_at c i = get_or c.steps (i - (c.n + 1)) (record { j = 1; k = 1; op = 0 })

-- the output is the given place
abbrev pub is_place : ℕ → Out → Bool
is_place i Zero = false
is_place i One = false
is_place i (Place p) = p == i

-- the slot has the pair of its step
abbrev pub is_pair_of : Step → Slot → Bool
is_pair_of s u = (u.j == s.j) && (u.k == s.k)

-- the variable is the selection variable of a slot with its step's pair
unfoldable pub slot_bit : Chain → List StepSlots → ℕ → Bool
slot_bit c steps x = list_any (λ s. list_any (λ u. (u.var == x) && is_pair_of (step_at c s.place) u) s.slots) steps

-- The assignment of a chain: the values of its steps, its outputs, its operators, and the variables after
-- these,
abbrev pub chain_bits : Dimensions → Chain → (ℕ → Bool) → Assignment
chain_bits z c rest = built z (λ i t. value c t i) (λ h i. is_place i (out_at c.outs h)) (λ i b c'. apply (step_at c i).op b c') rest

-- which here are selection variables.
abbrev pub assignment_of : Dimensions → List StepSlots → Chain → Assignment
assignment_of z steps c = chain_bits z c (slot_bit c steps)

-- a variable is the selection variable of at most one slot, and the pair of each step has a slot
pub record HasPairs (steps : List StepSlots) (c : Chain) : Type 0 where
  pub once : (s s' : StepSlots) (u u' : Slot) → IsSlotOf steps s u → IsSlotOf steps s' u' → u.var ≡ u'.var → IsSameSlot s s' u u'
  pub has : (s : StepSlots) → Contains steps s → HasSlot s.slots (step_at c s.place).j (step_at c s.place).k

-- each output is the place of a step
pub record HasStepOuts (c : Chain) (m : ℕ) : Type 0 where
  pub each : (h : ℕ) → 1 ≤ h → h ≤ m → IsStepOut c.n (c.n + length c.steps) (out_at c.outs h)

pub pair_test : (s : Step) (u : Slot) → is_pair_of s u ≡ true → (u.j ≡ s.j) × (u.k ≡ s.k)
pair_test s u e = let (j, k) = and_parts (u.j == s.j) (u.k == s.k) e in (eqb-true u.j s.j j, eqb-true u.k s.k k)

pub test_pair : (s : Step) (u : Slot) → u.j ≡ s.j → u.k ≡ s.k → is_pair_of s u ≡ true
test_pair s u j k = and_from (u.j == s.j) (u.k == s.k) (eq-eqb u.j s.j j) (eq-eqb u.k s.k k)

pub place_test : (i : ℕ) (out : Out) → is_place i out ≡ true → out ≡ Place i
place_test i Zero e = absurd cc
place_test i One e = absurd cc
place_test i (Place p) e = ap Place (eqb-true p i e)

pub test_place : (i : ℕ) (out : Out) → out ≡ Place i → is_place i out ≡ true
test_place i out e = ap (is_place i) e ∙ eq-eqb i i refl

-- a slot's variable is true where the slot has its step's pair
pub slot_true : (steps : List StepSlots) (c : Chain) (s : StepSlots) (u : Slot) → IsSlotOf steps s u → is_pair_of (step_at c s.place) u ≡ true → slot_bit c steps u.var ≡ true
unfolding slot_bit
slot_true steps c s u is pair =
    any_make (λ s. list_any (λ w. (w.var == u.var) && is_pair_of (step_at c s.place) w) s.slots) steps s is.step
    (any_make (λ w. (w.var == u.var) && is_pair_of (step_at c s.place) w) s.slots u is.slot (and_from (u.var == u.var) (is_pair_of (step_at c s.place) u) (eq-eqb u.var u.var refl) pair))

-- and only there
pub true_slot : (steps : List StepSlots) (c : Chain) (s : StepSlots) (u : Slot) → HasPairs steps c → IsSlotOf steps s u → slot_bit c steps u.var ≡ true → is_pair_of (step_at c s.place) u ≡ true
unfolding slot_bit
true_slot steps c s u pairs is true_ =
    let outer = any_get (λ (s : StepSlots). list_any (λ w. (w.var == u.var) && is_pair_of (step_at c s.place) w) s.slots) steps true_ in
    let inner = any_get (λ (w : Slot). (w.var == u.var) && is_pair_of (step_at c outer.element.place) w) outer.element.slots outer.passes in
    let (var, pair) = and_parts (inner.element.var == u.var) (is_pair_of (step_at c outer.element.place) inner.element) inner.passes in
    let same = pairs.once outer.element s inner.element u (record { step = outer.inside; slot = inner.inside }) is (eqb-true inner.element.var u.var var) in
    ap (λ (x : StepSlots). is_pair_of (step_at c x.place) u) (sym same.step) ∙ ap (is_pair_of (step_at c outer.element.place)) (sym same.slot) ∙ pair

-- ---- the variables of values, outputs and operators, whatever the later ones are

pub record IsOfChain (w : Words) (r : ℕ) (c : Chain) (v : Assignment) : Type 0 where
  pub values : (i t : ℕ) → IsStepPlace (sizes_of w r) i → t < 2 ^ w.n → v (x_var (sizes_of w r) i t) ≡ value c t i
  pub outs : (h i : ℕ) → 1 ≤ h → h ≤ length w.on → IsStepPlace (sizes_of w r) i → v (g_var (sizes_of w r) h i) ≡ is_place i (out_at c.outs h)
  pub operators : (i : ℕ) (b b' : Bool) → IsStepPlace (sizes_of w r) i → v (f_var (sizes_of w r) i b b') ≡ apply (step_at c i).op b b'

pub bits_of_chain : (w : Words) (r : ℕ) (c : Chain) (rest : ℕ → Bool) → IsOfChain w r c (chain_bits (sizes_of w r) c rest)
bits_of_chain w r c rest = record {
  values = λ i t is row. built_x (sizes_of w r) (λ i t. value c t i) (λ h i. is_place i (out_at c.outs h)) (λ i b c'. apply (step_at c i).op b c') rest i t is row;
  outs = λ h i some low is. built_g (sizes_of w r) (λ i t. value c t i) (λ h i. is_place i (out_at c.outs h)) (λ i b c'. apply (step_at c i).op b c') rest h i some low is;
  operators = λ i b b' is. built_f (sizes_of w r) (λ i t. value c t i) (λ h i. is_place i (out_at c.outs h)) (λ i b c'. apply (step_at c i).op b c') rest i b b' is;
}

pub bits_after_are : (z : Dimensions) (c : Chain) (rest : ℕ → Bool) (x : ℕ) → s_first z ≤ x → chain_bits z c rest x ≡ rest x
bits_after_are z c rest x bits_after = built_s z (λ i t. value c t i) (λ h i. is_place i (out_at c.outs h)) (λ i b c'. apply (step_at c i).op b c') rest x bits_after

module _ (w : Words) (basis r : ℕ) (c : Chain) where
  -- the step at a place
  pub step_there : IsFor w basis r c → (i : ℕ) → IsStepPlace (sizes_of w r) i → slice_get c.steps (i - (c.n + 1)) ≡ Some (step_at c i)
  step_there is i place =
      let from = place.from in
      let to = place.to in
      let inputs = is.agrees.inputs in
      let size = is.size in
      slice_get-get_or c.steps (i - (c.n + 1)) (record { j = 1; k = 1; op = 0 }) (omega arith)

  pub step_below : IsFor w basis r c → (i : ℕ) → IsStepPlace (sizes_of w r) i → IsStepAt i (step_at c i)
  step_below is i place =
      let from = place.from in
      let inputs = is.agrees.inputs in
      let e : c.n + 1 + (i - (c.n + 1)) ≡ i = omega arith in
      rw e at (is.is_chain.steps.each (i - (c.n + 1)) (step_at c i) (step_there is i place))

  pub step_has_value : IsFor w basis r c → (i t : ℕ) → IsStepPlace (sizes_of w r) i → value c t i ≡ apply (step_at c i).op (value c t (step_at c i).j) (value c t (step_at c i).k)
  step_has_value is i t place =
      let from = place.from in
      let inputs = is.agrees.inputs in
      let e : c.n + 1 + (i - (c.n + 1)) ≡ i = omega arith in
      ap (value c t) (sym e) ∙ value-step c t (i - (c.n + 1)) (step_at c i) is.is_chain.steps (step_there is i place)

module _ (w : Words) (basis r : ℕ) (c : Chain) (v : Assignment) (of : IsOfChain w r c v) where
  -- the bits are the values
  pub bits_are : IsFor w basis r c → (p t : ℕ) → p < w.n + 1 + r → t < 2 ^ w.n → x_bit (sizes_of w r) v p t ≡ value c t p
  bits_are is p t low row = ⊎_elim
      (λ (step : w.n < p). x_bit-step (sizes_of w r) v p t step ∙ of.values p t (record { from = omega arith; to = low }) row)
      (λ (inp : p ≤ w.n). let inputs = is.agrees.inputs in
      x_bit-input (sizes_of w r) v p t inp ∙ ap (λ (n : ℕ). input n t p) (sym inputs) ∙ sym (value-input c t p (omega arith)))
      (cases_lt w.n p)

  -- the operator's variables spell the operator
  pub operator_is : IsFor w basis r c → (i : ℕ) → IsStepPlace (sizes_of w r) i → (step_at c i).op ≡ operator_in (sizes_of w r) v i
  operator_is is i place = operator_only (λ b b'. v (f_var (sizes_of w r) i b b')) (step_at c i).op (step_below w basis r c is i place).op_below (λ b b'. sym (of.operators i b b' place))

  -- and the tables are met
  pub chain_meets : IsFor w basis r c → HasStepOuts c (length w.on) → MeetsTables w basis (sizes_of w r) v
  chain_meets is outs = record {
    driver = λ h some low.
        let out = outs.each h some low in
        let above = out.above in
        let within = out.within in
        let inputs = is.agrees.inputs in
        let size = is.size in
        let place : IsStepPlace (sizes_of w r) out.place = record { from = omega arith; to = omega arith } in
        (out.place, place, of.outs h out.place some low place ∙ test_place out.place (out_at c.outs h) out.is);
    out = λ h i t some low place row true_.
        let is_out = place_test i (out_at c.outs h) (sym (of.outs h i some low place) ∙ true_) in
        rw (bits_are is i t place.to row) (subst (λ (o : Out). is_met (cell_of w h t) (out_value c t o) ≡ true) is_out (is.agrees.cells h t some low row));
    operator = λ i place.
        let from = place.from in
        let to = place.to in
        let inputs = is.agrees.inputs in
        let size = is.size in
        ap (members basis) (sym (operator_is is i place)) ∙ is.is_over (i - (c.n + 1)) (record { j = 1; k = 1; op = 0 }) (omega arith);
  }

-- ---- by pairs

module _ (w : Words) (basis r : ℕ) (steps : List StepSlots) (c : Chain) where
  pub of_pairs : IsOfChain w r c (assignment_of (sizes_of w r) steps c)
  of_pairs = bits_of_chain w r c (slot_bit c steps)

  pub v_s : (x : ℕ) → s_first (sizes_of w r) ≤ x → assignment_of (sizes_of w r) steps c x ≡ slot_bit c steps x
  v_s x bits_after = bits_after_are (sizes_of w r) c (slot_bit c steps) x bits_after

  pub bits_are_values : IsFor w basis r c → (p t : ℕ) → p < w.n + 1 + r → t < 2 ^ w.n → x_bit (sizes_of w r) (assignment_of (sizes_of w r) steps c) p t ≡ value c t p
  bits_are_values is p t low row = bits_are w basis r c (assignment_of (sizes_of w r) steps c) of_pairs is p t low row

  -- The assignment of a chain has all properties.
  pub chain_solves : IsFor w basis r c → HasStepOuts c (length w.on) → IsLaid (sizes_of w r) steps → HasPairs steps c → Solves w basis (sizes_of w r) steps (assignment_of (sizes_of w r) steps c)
  chain_solves is outs laid pairs = record {
    tables = chain_meets w basis r c (assignment_of (sizes_of w r) steps c) of_pairs is outs;
    pair = λ s in_steps.
        let has = pairs.has s in_steps in
        let slot : IsSlotOf steps s has.slot = record { step = in_steps; slot = has.inside } in
        (has.slot, has.inside, v_s has.slot.var (laid.bits_after s has.slot slot) ∙ slot_true steps c s has.slot slot (test_pair (step_at c s.place) has.slot has.is_j has.is_k));
    value = λ s u t slot row true_.
        let place = laid_is_place (sizes_of w r) steps s laid slot.step in
        let (j, k) = pair_test (step_at c s.place) u (true_slot steps c s u pairs slot (sym (v_s u.var (laid.bits_after s u slot)) ∙ true_)) in
        let below = laid.below s u slot in
        let j_below = below.j_below in
        let k_below = below.k_below in
        let to = place.to in
        bits_are_values is s.place t to row
        ∙ step_has_value w basis r c is s.place t place
        ∙ rw (← j, ← k) refl
        ∙ sym (of_pairs.operators s.place (value c t u.j) (value c t u.k) place)
        ∙ rw (← bits_are_values is u.j t (omega arith) row, ← bits_are_values is u.k t (omega arith) row) refl;
  }
