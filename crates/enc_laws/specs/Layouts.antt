-- The steps of a layout and their pairs.
use Rattle.std.proofs.Common.{◌≡◌, ◌⊎◌, ℕ, zero, suc, ◌+◌, ◌-◌, ◌<◌, ◌≤◌, Bool, true, false, List, [], ◌∷◌, length, Some, Contains, refl, sym, ap, ◌∙◌, subst, arith, ⊎_elim}
use Rattle.std.specs.Prelude.{slice_get, max}
use Rattle.std.specs.List.{flat_map, range_with_len}
use Rattle.std.proofs.lemmas.Bool.{cases_order}
use Rattle.std.proofs.lemmas.Option.{slice_get-get_or}
use Rattle.enc_theory.specs.declared.data.Dimensions.{Dimensions}
use Rattle.enc_theory.specs.declared.data.Pair.{Pair}
use Rattle.enc_theory.specs.declared.data.Slot.{Slot}
use Rattle.enc_theory.specs.Numbering.{s_first}
use Rattle.enc_theory.specs.Pairs.{pair, pairs_of, pairs_with, pairs_below, StepSlots, numbered, laid, layout}
use Rattle.clause_core.specs.Holds.{contains_head, contains_tail, contains_cases, range_contains, range_inside, flat_map_get, flat_map_make}

-- a place of a step
pub record IsStepPlace (z : Dimensions) (i : ℕ) : Type 0 where
  pub from : z.n + 1 ≤ i
  pub to : i < z.n + 1 + z.r

-- both operands are lower places
pub record IsPairBelow (place j k : ℕ) : Type 0 where
  pub j_from : 1 ≤ j
  pub j_below : j < place
  pub k_from : 1 ≤ k
  pub k_below : k < place

-- a step of the layout with one of its slots
pub record IsSlotOf (steps : List StepSlots) (s : StepSlots) (u : Slot) : Type 0 where
  pub step : Contains steps s
  pub slot : Contains s.slots u

-- The steps have consecutive places, and each has pairs of lower places; the selection variables come after all
-- others.
pub record IsLaid (z : Dimensions) (steps : List StepSlots) : Type 0 where
  pub count : length steps ≡ z.r
  pub places : (k : ℕ) (s : StepSlots) → slice_get steps k ≡ Some s → s.place ≡ z.n + 1 + k
  pub below : (s : StepSlots) (u : Slot) → IsSlotOf steps s u → IsPairBelow s.place u.j u.k
  pub bits_after : (s : StepSlots) (u : Slot) → IsSlotOf steps s u → s_first z ≤ u.var

pub laid_is_place : (z : Dimensions) (steps : List StepSlots) (s : StepSlots) → IsLaid z steps → Contains steps s → IsStepPlace z s.place
laid_is_place z steps s laid (k, low, at) =
    let place = laid.places k s (slice_get-get_or steps k s low ∙ ap Some at) in
    let count = laid.count in
    record { from = omega arith; to = omega arith }

-- ---- numbered pairs

pub record IsNumbered (v : ℕ) (ps : List Pair) (u : Slot) : Type 0 where
  pub has : Contains ps (pair u.j u.k)
  pub from : v ≤ u.var
  pub to : u.var < v + length ps

pub numbered_slot : (v : ℕ) (ps : List Pair) (u : Slot) → Contains (numbered v ps) u → IsNumbered v ps u
unfolding numbered
numbered_slot v [] u c = absurd (omega (arith, c.1))
numbered_slot v (p ∷ ps) u c = ⊎_elim
    (λ (e : record { j = p.j; k = p.k; var = v } ≡ u). record {
      has = subst (λ (x : Slot). Contains (p ∷ ps) (pair x.j x.k)) e (contains_head p ps);
      from = let at : v ≡ u.var = ap (λ (x : Slot). x.var) e in omega arith;
      to = let at : v ≡ u.var = ap (λ (x : Slot). x.var) e in omega arith;
    })
    (λ (later : Contains (numbered (v + 1) ps) u). let more = numbered_slot (v + 1) ps u later in
    let from = more.from in
    let to = more.to in
    record {
      has = contains_tail p (pair u.j u.k) ps more.has;
      from = omega arith;
      to = omega arith;
    })
    (contains_cases (record { j = p.j; k = p.k; var = v }) u (numbered (v + 1) ps) c)

-- each pair has a slot
pub record HasSlot (slots : List Slot) (j k : ℕ) : Type 0 where
  pub slot : Slot
  pub inside : Contains slots slot
  pub is_j : slot.j ≡ j
  pub is_k : slot.k ≡ k

pub pair_has_slot : (v : ℕ) (ps : List Pair) (p : Pair) → Contains ps p → HasSlot (numbered v ps) p.j p.k
unfolding numbered
pair_has_slot v [] p c = absurd (omega (arith, c.1))
pair_has_slot v (q ∷ ps) p c = ⊎_elim
    (λ (e : q ≡ p). record {
      slot = record { j = q.j; k = q.k; var = v };
      inside = contains_head (record { j = q.j; k = q.k; var = v }) (numbered (v + 1) ps);
      is_j = ap (λ (x : Pair). x.j) e;
      is_k = ap (λ (x : Pair). x.k) e;
    })
    (λ (later : Contains ps p). let more = pair_has_slot (v + 1) ps p later in record {
      slot = more.slot;
      inside = contains_tail (record { j = q.j; k = q.k; var = v }) more.slot (numbered (v + 1) ps) more.inside;
      is_j = more.is_j;
      is_k = more.is_k;
    })
    (contains_cases q p ps c)

-- a variable is the selection variable of at most one pair
pub numbered_once : (v : ℕ) (ps : List Pair) (u w : Slot) → Contains (numbered v ps) u → Contains (numbered v ps) w → u.var ≡ w.var → u ≡ w
unfolding numbered
numbered_once v [] u w c d e = absurd (omega (arith, c.1))
numbered_once v (p ∷ ps) u w c d e = ⊎_elim
    (λ (here : record { j = p.j; k = p.k; var = v } ≡ u). ⊎_elim
    (λ (there : record { j = p.j; k = p.k; var = v } ≡ w). sym here ∙ there)
    (λ (later : Contains (numbered (v + 1) ps) w). absurd (let at : v ≡ u.var = ap (λ (x : Slot). x.var) here in omega (arith, (numbered_slot (v + 1) ps w later).from)))
    (contains_cases (record { j = p.j; k = p.k; var = v }) w (numbered (v + 1) ps) d))
    (λ (later : Contains (numbered (v + 1) ps) u). ⊎_elim
    (λ (there : record { j = p.j; k = p.k; var = v } ≡ w). absurd (let at : v ≡ w.var = ap (λ (x : Slot). x.var) there in omega (arith, (numbered_slot (v + 1) ps u later).from)))
    (λ (too : Contains (numbered (v + 1) ps) w). numbered_once (v + 1) ps u w later too e)
    (contains_cases (record { j = p.j; k = p.k; var = v }) w (numbered (v + 1) ps) d))
    (contains_cases (record { j = p.j; k = p.k; var = v }) u (numbered (v + 1) ps) c)

-- ---- laid steps

pub laid_count : (pairs : ℕ → List Pair) (v place count : ℕ) → length (laid pairs v place count) ≡ count
unfolding laid
laid_count pairs v place zero = refl
laid_count pairs v place (suc count) = ap suc (laid_count pairs (v + length (pairs place)) (place + 1) count)

pub laid_place : (pairs : ℕ → List Pair) (v place count k : ℕ) (s : StepSlots) → slice_get (laid pairs v place count) k ≡ Some s → s.place ≡ place + k
unfolding laid
laid_place pairs v place zero k s at = absurd cc
laid_place pairs v place (suc count) zero s at =
    let e : record { place = place; slots = numbered v (pairs place) } ≡ s = cc in
    let here : place ≡ s.place = ap (λ (x : StepSlots). x.place) e in omega arith
laid_place pairs v place (suc count) (suc k) s at =
    let more = laid_place pairs (v + length (pairs place)) (place + 1) count k s at in omega arith

-- the first selection variable of a step
pub record IsLaidStep (pairs : ℕ → List Pair) (v place : ℕ) (s : StepSlots) : Type 0 where
  pub first : ℕ
  pub from : v ≤ first
  pub slots : s.slots ≡ numbered first (pairs s.place)
  pub place_from : place ≤ s.place

pub laid_step : (pairs : ℕ → List Pair) (v place count : ℕ) (s : StepSlots) → Contains (laid pairs v place count) s → IsLaidStep pairs v place s
unfolding laid
laid_step pairs v place zero s c = absurd (omega (arith, c.1))
laid_step pairs v place (suc count) s c = ⊎_elim
    (λ (e : record { place = place; slots = numbered v (pairs place) } ≡ s). record {
      first = v;
      from = omega arith;
      slots = subst (λ (x : StepSlots). x.slots ≡ numbered v (pairs x.place)) e refl;
      place_from = let here : place ≡ s.place = ap (λ (x : StepSlots). x.place) e in omega arith;
    })
    (λ (later : Contains (laid pairs (v + length (pairs place)) (place + 1) count) s). let more = laid_step pairs (v + length (pairs place)) (place + 1) count s later in
    let from = more.from in
    let place_from = more.place_from in
    record {
      first = more.first;
      from = omega arith;
      slots = more.slots;
      place_from = omega arith;
    })
    (contains_cases (record { place = place; slots = numbered v (pairs place) }) s (laid pairs (v + length (pairs place)) (place + 1) count) c)

-- a slot of a laid step, by its step and its number
pub record IsLaidSlot (pairs : ℕ → List Pair) (v : ℕ) (s : StepSlots) (u : Slot) : Type 0 where
  pub has : Contains (pairs s.place) (pair u.j u.k)
  pub from : v ≤ u.var

pub laid_slot : (pairs : ℕ → List Pair) (v place count : ℕ) (s : StepSlots) (u : Slot) → IsSlotOf (laid pairs v place count) s u → IsLaidSlot pairs v s u
laid_slot pairs v place count s u is =
    let step = laid_step pairs v place count s is.step in
    let slot = numbered_slot step.first (pairs s.place) u (subst (λ (x : List Slot). Contains x u) step.slots is.slot) in
    let step_from = step.from in
    let slot_from = slot.from in
    record { has = slot.has; from = omega arith }

-- a variable is the selection variable of at most one pair of one step
pub record IsSameSlot (s s' : StepSlots) (u u' : Slot) : Type 0 where
  pub step : s ≡ s'
  pub slot : u ≡ u'

pub laid_once : (pairs : ℕ → List Pair) (v place count : ℕ) (s s' : StepSlots) (u u' : Slot) →
    IsSlotOf (laid pairs v place count) s u → IsSlotOf (laid pairs v place count) s' u' → u.var ≡ u'.var →
    IsSameSlot s s' u u'
unfolding laid
laid_once pairs v place zero s s' u u' is is' e = absurd (omega (arith, is.step.1))
laid_once pairs v place (suc count) s s' u u' is is' e = ⊎_elim
    (λ (here : record { place = place; slots = numbered v (pairs place) } ≡ s). ⊎_elim
    (λ (there : record { place = place; slots = numbered v (pairs place) } ≡ s'). record {
      step = sym here ∙ there;
      slot = numbered_once v (pairs place) u u' (subst (λ (x : StepSlots). Contains x.slots u) (sym here) is.slot) (subst (λ (x : StepSlots). Contains x.slots u') (sym there) is'.slot) e;
    })
    (λ (later : Contains (laid pairs (v + length (pairs place)) (place + 1) count) s').
    absurd (omega (
      arith,
      (numbered_slot v (pairs place) u (subst (λ (x : StepSlots). Contains x.slots u) (sym here) is.slot)).to,
      (laid_slot pairs (v + length (pairs place)) (place + 1) count s' u' (record { step = later; slot = is'.slot })).from,
    )))
    (contains_cases (record { place = place; slots = numbered v (pairs place) }) s' (laid pairs (v + length (pairs place)) (place + 1) count) is'.step))
    (λ (later : Contains (laid pairs (v + length (pairs place)) (place + 1) count) s). ⊎_elim
    (λ (there : record { place = place; slots = numbered v (pairs place) } ≡ s').
    absurd (omega (
      arith,
      (numbered_slot v (pairs place) u' (subst (λ (x : StepSlots). Contains x.slots u') (sym there) is'.slot)).to,
      (laid_slot pairs (v + length (pairs place)) (place + 1) count s u (record { step = later; slot = is.slot })).from,
    )))
    (λ (too : Contains (laid pairs (v + length (pairs place)) (place + 1) count) s').
    laid_once pairs (v + length (pairs place)) (place + 1) count s s' u u' (record { step = later; slot = is.slot }) (record { step = too; slot = is'.slot }) e)
    (contains_cases (record { place = place; slots = numbered v (pairs place) }) s' (laid pairs (v + length (pairs place)) (place + 1) count) is'.step))
    (contains_cases (record { place = place; slots = numbered v (pairs place) }) s (laid pairs (v + length (pairs place)) (place + 1) count) is.step)

-- ---- layouts

-- all pairs of a step are of lower places
pub record AreBelow (n : ℕ) (pairs : ℕ → List Pair) : Type 0 where
  pub each : (place : ℕ) (p : Pair) → n + 1 ≤ place → Contains (pairs place) p → IsPairBelow place p.j p.k

pub layout_is_laid : (pairs : ℕ → List Pair) (z : Dimensions) → AreBelow z.n pairs → IsLaid z (layout pairs z)
layout_is_laid pairs z are = record {
  count = laid_count pairs (s_first z) (z.n + 1) z.r;
  places = λ k s at. laid_place pairs (s_first z) (z.n + 1) z.r k s at;
  below = λ s u is. are.each s.place (pair u.j u.k) (laid_step pairs (s_first z) (z.n + 1) z.r s is.step).place_from (laid_slot pairs (s_first z) (z.n + 1) z.r s u is).has;
  bits_after = λ s u is. (laid_slot pairs (s_first z) (z.n + 1) z.r s u is).from;
}

pub layout_once : (pairs : ℕ → List Pair) (z : Dimensions) (s s' : StepSlots) (u u' : Slot) → IsSlotOf (layout pairs z) s u → IsSlotOf (layout pairs z) s' u' → u.var ≡ u'.var → IsSameSlot s s' u u'
layout_once pairs z s s' u u' is is' e = laid_once pairs (s_first z) (z.n + 1) z.r s s' u u' is is' e

-- each pair of a step has a slot there
pub layout_has : (pairs : ℕ → List Pair) (z : Dimensions) (s : StepSlots) (j k : ℕ) → Contains (layout pairs z) s → Contains (pairs s.place) (pair j k) → HasSlot s.slots j k
layout_has pairs z s j k c has =
    let step = laid_step pairs (s_first z) (z.n + 1) z.r s c in
    subst (λ (x : List Slot). HasSlot x j k) (sym step.slots) (pair_has_slot step.first (pairs s.place) (pair j k) has)

-- ---- the pairs below a place

pairs_of_below : (ordered : Bool) (large small : ℕ) (p : Pair) → 1 ≤ small → small < large → Contains (pairs_of ordered large small) p → IsPairBelow (large + 1) p.j p.k
unfolding pairs_of
pairs_of_below true large small p some low c = ⊎_elim
    (λ (e : pair small large ≡ p). subst (λ (q : Pair). IsPairBelow (large + 1) q.j q.k) e record { j_from = some; j_below = omega arith; k_from = omega arith; k_below = omega arith })
    (λ (none : Contains [] p). absurd (omega (arith, none.1)))
    (contains_cases (pair small large) p [] c)
pairs_of_below false large small p some low c = ⊎_elim
    (λ (e : pair small large ≡ p). subst (λ (q : Pair). IsPairBelow (large + 1) q.j q.k) e record { j_from = some; j_below = omega arith; k_from = omega arith; k_below = omega arith })
    (λ (later : Contains (pair large small ∷ []) p). ⊎_elim
    (λ (e : pair large small ≡ p). subst (λ (q : Pair). IsPairBelow (large + 1) q.j q.k) e record { j_from = omega arith; j_below = omega arith; k_from = some; k_below = omega arith })
    (λ (none : Contains [] p). absurd (omega (arith, none.1)))
    (contains_cases (pair large small) p [] later))
    (contains_cases (pair small large) p (pair large small ∷ []) c)

pub pairs_with_below : (ordered : Bool) (large : ℕ) (p : Pair) → 1 ≤ large → Contains (pairs_with ordered large) p → IsPairBelow (large + 1) p.j p.k
unfolding pairs_with
pairs_with_below ordered large p some c = ⊎_elim
    (λ (e : pair large large ≡ p). subst (λ (q : Pair). IsPairBelow (large + 1) q.j q.k) e record { j_from = some; j_below = omega arith; k_from = some; k_below = omega arith })
    (λ (later : Contains (flat_map (pairs_of ordered large) (range_with_len 1 (large - 1))) p).
    let from = flat_map_get (pairs_of ordered large) (range_with_len 1 (large - 1)) p later in
    let (low, high) = range_inside 1 (large - 1) from.source from.inside in
    pairs_of_below ordered large from.source p low (omega arith) from.gives)
    (contains_cases (pair large large) p (flat_map (pairs_of ordered large) (range_with_len 1 (large - 1))) c)

pub pairs_are_below : (ordered : Bool) (n : ℕ) → AreBelow n (pairs_below ordered)
unfolding pairs_below
pairs_are_below ordered n = record {
  each = λ place p from_n c.
      let from = flat_map_get (pairs_with ordered) (range_with_len 1 (place - 1)) p c in
      let (low, high) = range_inside 1 (place - 1) from.source from.inside in
      let is = pairs_with_below ordered from.source p low from.gives in
      let j = is.j_below in
      let k = is.k_below in
      record { j_from = is.j_from; j_below = omega arith; k_from = is.k_from; k_below = omega arith };
}

-- and all of them are in the list
with_has : (ordered : Bool) (large : ℕ) (p : Pair) (small : ℕ) → 1 ≤ small → small < large → Contains (pairs_of ordered large small) p → Contains (pairs_with ordered large) p
unfolding pairs_with
with_has ordered large p small some low c =
    contains_tail (pair large large) p (flat_map (pairs_of ordered large) (range_with_len 1 (large - 1)))
    (flat_map_make (pairs_of ordered large) (range_with_len 1 (large - 1)) small p (range_contains 1 (large - 1) small some (omega arith)) c)

below_has : (ordered : Bool) (place : ℕ) (p : Pair) (large : ℕ) → 1 ≤ large → large < place → Contains (pairs_with ordered large) p → Contains (pairs_below ordered place) p
unfolding pairs_below
below_has ordered place p large some low c =
    flat_map_make (pairs_with ordered) (range_with_len 1 (place - 1)) large p (range_contains 1 (place - 1) large some (omega arith)) c

rising_there : (ordered : Bool) (large small : ℕ) → Contains (pairs_of ordered large small) (pair small large)
unfolding pairs_of
rising_there true large small = contains_head (pair small large) []
rising_there false large small = contains_head (pair small large) (pair large small ∷ [])

falling_there : (ordered : Bool) (large small : ℕ) → (ordered ≡ true → ⊥) → Contains (pairs_of ordered large small) (pair large small)
unfolding pairs_of
falling_there true large small free = absurd (free refl)
falling_there false large small free = contains_tail (pair small large) (pair large small) (pair large small ∷ []) (contains_head (pair large small) [])

equal_there : (ordered : Bool) (large : ℕ) → Contains (pairs_with ordered large) (pair large large)
unfolding pairs_with
equal_there ordered large = contains_head (pair large large) (flat_map (pairs_of ordered large) (range_with_len 1 (large - 1)))

-- a pair is among those of its larger operand
pub pair_with_larger : (ordered : Bool) (j k : ℕ) → 1 ≤ j → 1 ≤ k → (ordered ≡ true → j ≤ k) → Contains (pairs_with ordered (max j k)) (pair j k)
pair_with_larger ordered j k j_from k_from rising = ⊎_elim
    (λ (e : j ≡ k). let m : max j k ≡ k = omega arith in rw m (subst (λ (x : ℕ). Contains (pairs_with ordered k) (pair x k)) (sym e) (equal_there ordered k)))
    (λ (apart : (j < k) ⊎ (k < j)). ⊎_elim
    (λ (up : j < k). let m : max j k ≡ k = omega arith in rw m (with_has ordered k (pair j k) j j_from up (rising_there ordered k j)))
    (λ (down : k < j). let m : max j k ≡ j = omega arith in rw m (with_has ordered j (pair j k) k k_from down (falling_there ordered j k (λ o. let up = rising o in omega arith))))
    apart)
    (cases_order j k)

pub pair_is_there : (ordered : Bool) (place j k : ℕ) → IsPairBelow place j k → (ordered ≡ true → j ≤ k) → Contains (pairs_below ordered place) (pair j k)
pair_is_there ordered place j k is rising =
    let j_from = is.j_from in
    let j_below = is.j_below in
    let k_below = is.k_below in
    below_has ordered place (pair j k) (max j k) (omega arith) (omega arith) (pair_with_larger ordered j k is.j_from is.k_from rising)
