-- An assignment with the properties spells a chain that implements the tables.
use Rattle.std.proofs.Common.{◌≡◌, ℕ, ◌+◌, ◌-◌, ◌^◌, ◌<◌, ◌≤◌, Bool, true, false, ◌||◌, List, [], ◌∷◌, length, map, get_or, Option, Some, None, Contains, refl, sym, ap, ◌∙◌, arith}
use Rattle.std.specs.Prelude.{if◌then◌else◌, slice_get, option_map}
use Rattle.std.specs.List.{list_any}
use Rattle.std.proofs.lemmas.Bool.{le-leb, lt-leb}
use Rattle.std.proofs.lemmas.Option.{slice_get-map, slice_get-get_or, slice_get_within, get_or_from_slice_get}
use Rattle.std.proofs.lemmas.List.{length-map}
use Rattle.std.proofs.lemmas.List.FromFn.{length-map-range_with_len, get_or-map-range_with_len}
use Rattle.chain_theory.specs.Operator.{apply}
use Rattle.chain_theory.specs.Specification.{input}
use Rattle.chain_theory.specs.Chain.{Step, Chain, AreSteps, IsChain}
use Rattle.chain_theory.specs.Value.{values_on}
use Rattle.chain_theory.specs.Agreement.{is_met, Agrees, IsOver}
use Rattle.chain_theory.specs.declared.data.Out.{Out}
use Rattle.chain_theory.specs.declared.data.Out.TheVariants.{Zero, Place}
use Rattle.op_basis.specs.Basis.{members}
use Rattle.op_basis.specs.Laws.{operator_values, operator_low}
use Rattle.chain_laws.specs.Follow.{values_are}
use Rattle.sat_theory.specs.Formula.{Assignment}
use Rattle.tt_core.specs.Words.{Words, specification, cell_of}
use Rattle.enc_theory.specs.declared.data.Dimensions.{Dimensions}
use Rattle.enc_theory.specs.declared.data.Slot.{Slot}
use Rattle.enc_theory.specs.declared.data.Pair.{Pair}
use Rattle.enc_theory.specs.Numbering.{places, outputs, x_var, g_var, f_var}
use Rattle.enc_theory.specs.Pairs.{StepSlots, pair}
use Rattle.enc_theory.specs.Decode.{first_pair, operator_in, decoded_step, first_driver, decoded_out}
use Rattle.clause_core.specs.Holds.{contains_head, contains_tail, any_make, range_contains, range_inside}
use Rattle.enc_laws.specs.Layouts.{IsStepPlace, IsSlotOf, IsLaid}
use Rattle.enc_laws.specs.Solves.{x_bit, MeetsTables, Solves}

-- ---- bits that follow steps

pub x_bit-input : (z : Dimensions) (v : Assignment) (j t : ℕ) → j ≤ z.n → x_bit z v j t ≡ input z.n t j
unfolding x_bit
x_bit-input z v j t low = rw (le-leb j z.n low) refl

pub x_bit-step : (z : Dimensions) (v : Assignment) (j t : ℕ) → z.n < j → x_bit z v j t ≡ v (x_var z j t)
unfolding x_bit
x_bit-step z v j t high = rw (lt-leb j z.n high) refl

-- A list of steps: the assignment's bit of a step's place is its operator's value at its operands' bits, and
-- each output has a driver whose bits meet its cells.
pub record IsSpelled (w : Words) (z : Dimensions) (v : Assignment) (list : List Step) (driver : ℕ → ℕ) : Type 0 where
  pub count : length list ≡ z.r
  pub steps : AreSteps z.n list
  pub follow : (i : ℕ) (s : Step) (t : ℕ) → slice_get list i ≡ Some s → t < 2 ^ z.n → x_bit z v (z.n + 1 + i) t ≡ apply s.op (x_bit z v s.j t) (x_bit z v s.k t)
  pub place : (h : ℕ) → 1 ≤ h → h ≤ z.m → IsStepPlace z (driver h)
  pub met : (h t : ℕ) → 1 ≤ h → h ≤ z.m → t < 2 ^ z.n → is_met (cell_of w h t) (x_bit z v (driver h) t) ≡ true

unfoldable pub spelled_outs : (ℕ → ℕ) → Dimensions → List Out
spelled_outs driver z = map (λ h. Place (driver h)) (outputs z)

abbrev pub spelled : Dimensions → List Step → (ℕ → ℕ) → Chain
spelled z steps driver = record { n = z.n; steps = steps; outs = spelled_outs driver z }

length-spelled_outs : (driver : ℕ → ℕ) (z : Dimensions) → length (spelled_outs driver z) ≡ z.m
unfolding spelled_outs
length-spelled_outs driver z = length-map-range_with_len (λ h. Place (driver h)) 1 z.m

spelled_at : (driver : ℕ → ℕ) (z : Dimensions) (k h : ℕ) (d : Out) → k < z.m → 1 + k ≡ h → get_or (spelled_outs driver z) k d ≡ Place (driver h)
unfolding spelled_outs
spelled_at driver z k h d low e = get_or-map-range_with_len (λ h. Place (driver h)) 1 z.m k h d low e

pub spelled_is_chain : (w : Words) (z : Dimensions) (v : Assignment) (steps : List Step) (driver : ℕ → ℕ) → IsSpelled w z v steps driver → IsChain (spelled z steps driver)
spelled_is_chain w z v steps driver is = record {
  steps = is.steps;
  outs = λ k d low.
      let long = length-spelled_outs driver z in
      let at = is.place (1 + k) (omega arith) (omega arith) in
      let from = at.from in
      let to = at.to in
      let count = is.count in
      rw (spelled_at driver z k (1 + k) d (omega arith) refl) (omega arith, omega arith);
}

-- the bits are the values
pub spelled_values : (w : Words) (z : Dimensions) (v : Assignment) (steps : List Step) (driver : ℕ → ℕ) →
    IsSpelled w z v steps driver → (p t : ℕ) → 1 ≤ p → p < z.n + 1 + z.r → t < 2 ^ z.n →
    values_on z.n t steps p ≡ x_bit z v p t
spelled_values w z v steps driver is p t some low row =
    values_are z.n t (λ q. x_bit z v q t) steps is.steps (λ q q_from q_low. x_bit-input z v q t q_low) (λ i s at. is.follow i s t at row) p some (let count = is.count in omega arith)

-- and the chain implements the tables.
pub spelled_agrees : (w : Words) (z : Dimensions) (v : Assignment) (steps : List Step) (driver : ℕ → ℕ) → z.n ≡ w.n →
    z.m ≡ length w.on → IsSpelled w z v steps driver → Agrees (spelled z steps driver) (specification w)
spelled_agrees w z v steps driver inputs count is = record {
  inputs = inputs;
  outputs = length-spelled_outs driver z ∙ count;
  cells = λ h t some low row.
      let at : get_or (spelled_outs driver z) (h - 1) Zero ≡ Place (driver h) = spelled_at driver z (h - 1) h Zero (omega arith) (omega arith) in
      let row_z : t < 2 ^ z.n = rw inputs row in
      let place = is.place h some (omega arith) in
      let from = place.from in
      let to = place.to in
      rw (at, spelled_values w z v steps driver is (driver h) t (omega arith) (omega arith) row_z) (is.met h t some (omega arith) row_z);
}

-- ---- the steps that an assignment of pairs spells

-- the first pair whose selection variable is true
pub record IsFirstPair (v : Assignment) (slots : List Slot) (p : Pair) : Type 0 where
  pub slot : Slot
  pub inside : Contains slots slot
  pub true_ : v slot.var ≡ true
  pub is : p ≡ pair slot.j slot.k

head_or_later : (v : Assignment) (u : Slot) (us : List Slot) (later : Pair) (b : Bool) → v u.var ≡ b → (b ≡ false → IsFirstPair v us later) → IsFirstPair v (u ∷ us) (if b then pair u.j u.k else later)
head_or_later v u us later true e found = record { slot = u; inside = contains_head u us; true_ = e; is = refl }
head_or_later v u us later false e found = let more = found refl in record { slot = more.slot; inside = contains_tail u more.slot us more.inside; true_ = more.true_; is = more.is }

pub first_pair_is : (v : Assignment) (slots : List Slot) → list_any (λ u. v u.var) slots ≡ true → IsFirstPair v slots (first_pair v slots)
unfolding first_pair
first_pair_is v [] any = absurd cc
first_pair_is v (u ∷ us) any = head_or_later v u us (first_pair v us) (v u.var) refl (λ e. first_pair_is v us (sym (ap (λ (b : Bool). b || list_any (λ u. v u.var) us) e) ∙ any))

-- the first step whose variable is true
pub record IsFirstDriver (z : Dimensions) (v : Assignment) (h : ℕ) (is : List ℕ) (i : ℕ) : Type 0 where
  pub inside : Contains is i
  pub true_ : v (g_var z h i) ≡ true

here_or_later : (z : Dimensions) (v : Assignment) (h i : ℕ) (is : List ℕ) (later : ℕ) (b : Bool) → v (g_var z h i) ≡ b →
    (b ≡ false → IsFirstDriver z v h is later) → IsFirstDriver z v h (i ∷ is) (if b then i else later)
here_or_later z v h i is later true e found = record { inside = contains_head i is; true_ = e }
here_or_later z v h i is later false e found = let more = found refl in record { inside = contains_tail i later is more.inside; true_ = more.true_ }

pub first_driver_is : (z : Dimensions) (v : Assignment) (h : ℕ) (is : List ℕ) → list_any (λ i. v (g_var z h i)) is ≡ true → IsFirstDriver z v h is (first_driver z v h is)
unfolding first_driver
first_driver_is z v h [] any = absurd cc
first_driver_is z v h (i ∷ is) any = here_or_later z v h i is (first_driver z v h is) (v (g_var z h i)) refl
    (λ e. first_driver_is z v h is (sym (ap (λ (b : Bool). b || list_any (λ i. v (g_var z h i)) is) e) ∙ any))

-- it is a step, and meets the cells of its output
pub driver_place : (w : Words) (basis : ℕ) (z : Dimensions) (v : Assignment) (h : ℕ) → MeetsTables w basis z v → 1 ≤ h → h ≤ z.m → IsStepPlace z (first_driver z v h (places z))
driver_place w basis z v h meets some low =
    let (i, place, true_) = meets.driver h some low in
    let first = first_driver_is z v h (places z) (any_make (λ (i : ℕ). v (g_var z h i)) (places z) i (range_contains (z.n + 1) z.r i place.from place.to) true_) in
    let (from, to) = range_inside (z.n + 1) z.r (first_driver z v h (places z)) first.inside in
    record { from = from; to = to }

pub driver_met : (w : Words) (basis : ℕ) (z : Dimensions) (v : Assignment) (h t : ℕ) → MeetsTables w basis z v → 1 ≤ h →
    h ≤ z.m → t < 2 ^ z.n → is_met (cell_of w h t) (x_bit z v (first_driver z v h (places z)) t) ≡ true
driver_met w basis z v h t meets some low row =
    let (i, place, true_) = meets.driver h some low in
    let first = first_driver_is z v h (places z) (any_make (λ (i : ℕ). v (g_var z h i)) (places z) i (range_contains (z.n + 1) z.r i place.from place.to) true_) in
    meets.out h (first_driver z v h (places z)) t some low (driver_place w basis z v h meets some low) row first.true_

-- the element of a mapped list at an index
pub record IsMade {X Y : Type 0} (f : X → Y) (o : Option X) (y : Y) : Type 0 where
  pub from : X
  pub at : o ≡ Some from
  pub is : y ≡ f from

pub made_from : {X Y : Type 0} (f : X → Y) (o : Option X) (y : Y) → option_map f o ≡ Some y → IsMade f o y
made_from f None y e = absurd cc
made_from f (Some x) y e = record { from = x; at = refl; is = cc }

-- the step that is spelled at a place
pub record IsDecoded (z : Dimensions) (steps : List StepSlots) (v : Assignment) (i : ℕ) (d : Step) : Type 0 where
  pub from : StepSlots
  pub slot : Slot
  pub place : from.place ≡ z.n + 1 + i
  pub has : IsSlotOf steps from slot
  pub true_ : v slot.var ≡ true
  pub is : d ≡ record { j = slot.j; k = slot.k; op = operator_in z v from.place }

with_pair : (z : Dimensions) (v : Assignment) (s : StepSlots) (d : Step) → d ≡ decoded_step z v s → (u : Slot) →
    first_pair v s.slots ≡ pair u.j u.k → d ≡ record { j = u.j; k = u.k; op = operator_in z v s.place }
unfolding decoded_step
with_pair z v s d is u first = is ∙ ap (λ (p : Pair). record { j = p.j; k = p.k; op = operator_in z v s.place }) first

pub decoded_is : (w : Words) (basis : ℕ) (z : Dimensions) (steps : List StepSlots) (v : Assignment) (i : ℕ) (d : Step) →
    IsLaid z steps → Solves w basis z steps v → slice_get (map (decoded_step z v) steps) i ≡ Some d →
    IsDecoded z steps v i d
decoded_is w basis z steps v i d laid solves at =
    let made = made_from (decoded_step z v) (slice_get steps i) d (sym (slice_get-map (decoded_step z v) steps i) ∙ at) in
    let inside : Contains steps made.from = (i, slice_get_within steps i made.from made.at, get_or_from_slice_get steps i made.from made.from made.at) in
    let (u, has, true_) = solves.pair made.from inside in
    let first = first_pair_is v made.from.slots (any_make (λ (u : Slot). v u.var) made.from.slots u has true_) in
    record {
      from = made.from;
      slot = first.slot;
      place = laid.places i made.from made.at;
      has = record { step = inside; slot = first.inside };
      true_ = first.true_;
      is = with_pair z v made.from d made.is first.slot first.is;
    }

-- An assignment with the properties spells steps, and a driver for each output.
pub solved_spells : (w : Words) (basis : ℕ) (z : Dimensions) (steps : List StepSlots) (v : Assignment) → IsLaid z steps →
    Solves w basis z steps v → IsSpelled w z v (map (decoded_step z v) steps) (λ h. first_driver z v h (places z))
solved_spells w basis z steps v laid solves = record {
  count = length-map steps (decoded_step z v) ∙ laid.count;
  steps = record {
    each = λ i d at.
        let is = decoded_is w basis z steps v i d laid solves at in
        let below = laid.below is.from is.slot is.has in
        let j = below.j_below in
        let k = below.k_below in
        let place = is.place in
        rw (is.is) record {
          j_from = below.j_from;
          j_below = omega arith;
          k_from = below.k_from;
          k_below = omega arith;
          op_below = operator_low (λ b c. v (f_var z is.from.place b c));
        };
  };
  follow = λ i d t at row.
      let is = decoded_is w basis z steps v i d laid solves at in
      ap (λ (p : ℕ). x_bit z v p t) (sym is.place)
      ∙ solves.value is.from is.slot t is.has row is.true_
      ∙ sym (operator_values (λ b c. v (f_var z is.from.place b c)) (x_bit z v is.slot.j t) (x_bit z v is.slot.k t))
      ∙ ap (λ (s : Step). apply s.op (x_bit z v s.j t) (x_bit z v s.k t)) (sym is.is);
  place = λ h some low. driver_place w basis z v h solves.tables some low;
  met = λ h t some low row. driver_met w basis z v h t solves.tables some low row;
}

-- each step that is spelled is over the basis
pub solved_is_over : (w : Words) (basis : ℕ) (z : Dimensions) (steps : List StepSlots) (v : Assignment) (outs : List Out) →
    IsLaid z steps → Solves w basis z steps v → IsOver (members basis) (record {
      n = z.n;
      steps = map (decoded_step z v) steps;
      outs = outs;
    })
solved_is_over w basis z steps v outs laid solves = λ k d low.
    let at : slice_get (map (decoded_step z v) steps) k ≡ Some (get_or (map (decoded_step z v) steps) k d) = slice_get-get_or (map (decoded_step z v) steps) k d low in
    let is = decoded_is w basis z steps v k (get_or (map (decoded_step z v) steps) k d) laid solves at in
    let place = is.place in
    let long = length-map steps (decoded_step z v) in
    let count = laid.count in
    ap (λ (s : Step). members basis s.op) is.is ∙ solves.tables.operator is.from.place (record { from = omega arith; to = omega arith })

-- The chain of an assignment, whatever the pairs.
pub decoded_outs : (z : Dimensions) (v : Assignment) → map (decoded_out z v) (outputs z) ≡ spelled_outs (λ h. first_driver z v h (places z)) z
unfolding decoded_out spelled_outs
decoded_outs z v = refl
