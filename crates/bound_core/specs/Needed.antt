-- A chain has at least as many steps as a list of outputs uses inputs, less the number of these
-- outputs. Go from the last step to the first, and replace the step's place in the list of the outs'
-- places by its two operands. Each step makes the list longer by at most one. At the end the list has
-- inputs alone, and the outs depend on no other input.
use Rattle.std.proofs.Common.{◌≡◌, ℕ, zero, suc, ◌+◌, ◌-◌, ◌<◌, ◌≤◌, Bool, true, false, List, [], ◌∷◌, length, Contains, Some, refl, sym, ap, ap₂, ◌∙◌, subst, arith, inl, inr}
use Rattle.std.specs.Prelude.{slice_get, slice_index_or}
use Rattle.std.proofs.lemmas.Bool.{cases_Bool, cases_eq}
use Rattle.chain_theory.specs.Operator.{Basis, apply}
use Rattle.chain_theory.specs.Specification.{Specification}
use Rattle.chain_theory.specs.Chain.{Step, Chain, IsChain, IsStepAt, NamesPlace}
use Rattle.chain_theory.specs.Value.{value, out_value}
use Rattle.chain_theory.specs.ValueLaws.{value-input, value-step}
use Rattle.chain_theory.specs.Agreement.{is_met, HasChain}
use Rattle.chain_theory.specs.declared.data.Cell.{Cell}
use Rattle.chain_theory.specs.declared.data.Cell.TheVariants.{Zero, One, Free}
use Rattle.chain_theory.specs.declared.data.Out.{Out}
use Rattle.chain_theory.specs.declared.data.Out.TheVariants as kinds
use Rattle.std.proofs.lemmas.List.{get_or_default}
use Rattle.std.proofs.lemmas.List.Elements.{Contains-append_right}
use Rattle.bound_core.specs.Support.{are_opposite, IsInSupport, AreInSupports}
use Rattle.bound_core.specs.Places.{has, without, has_cases, has_first, has_later, has_none, without_less, without_keeps, without_from, no_longer}

true_false : true ≡ false → ⊥
true_false e = cc

-- each place of a list has the same value on two rows
abbrev pub AreSame : Chain → List ℕ → ℕ → ℕ → Type 0
AreSame c places t u = (p : ℕ) → has p places ≡ true → value c t p ≡ value c u p

-- The inputs on which the values of some places depend, by a chain's first i steps.
pub record Rests (c : Chain) (places : List ℕ) (i : ℕ) : Type 0 where
  pub base : List ℕ
  pub inputs : (p : ℕ) → has p base ≡ true → (1 ≤ p) × (p ≤ c.n)
  pub few : length base ≤ length places + i
  pub follow : (t u : ℕ) → AreSame c base t u → AreSame c places t u

-- the step at an index below the number of steps
step_there : (steps : List Step) (i : ℕ) → i < length steps → (s : Step) × (slice_get steps i ≡ Some s)
step_there [] i low = absurd (omega arith)
step_there (s ∷ steps) zero low = (s, refl)
step_there (s ∷ steps) (suc i) low = step_there steps i (omega arith)

-- a list of places with a step's place replaced by its two operands
abbrev exchanged : ℕ → Step → List ℕ → List ℕ
exchanged place s places = s.j ∷ s.k ∷ without place places

exchanged_low : (n i place : ℕ) (s : Step) (places : List ℕ) → place ≡ n + 1 + i → IsStepAt place s →
    ((p : ℕ) → has p places ≡ true → (1 ≤ p) × (p ≤ n + suc i)) → (p : ℕ) → has p (exchanged place s places) ≡ true →
    (1 ≤ p) × (p ≤ n + i)
exchanged_low n i place s places e is low p h = elim (has_cases p s.j (s.k ∷ without place places) h) [
  | inl first ↦ (omega (arith, first, is.j_from), omega (arith, first, e, is.j_below))
  | inr later ↦ elim (has_cases p s.k (without place places) later) [
    | inl second ↦ (omega (arith, second, is.k_from), omega (arith, second, e, is.k_below))
    | inr other ↦
        let from = without_from place p places other in
        let here = low p from.1 in
        (here.0, omega (arith, here.1, from.0, e))
  ]
]

exchanged_same : (c : Chain) (i place : ℕ) (s : Step) (places : List ℕ) (t u : ℕ) → place ≡ c.n + 1 + i → IsChain c →
    slice_get c.steps i ≡ Some s → AreSame c (exchanged place s places) t u → AreSame c places t u
exchanged_same c i place s places t u e is at same p h = elim (cases_Bool (has p (without place places))) [
  | inl other ↦ same p (has_later p s.j (s.k ∷ without place places) (has_later p s.k (without place places) other))
  | inr gone ↦ own (place_of gone)
]
  where
    own : p ≡ place → value c t p ≡ value c u p
    own here =
        let at_p : p ≡ c.n + 1 + i = here ∙ e in
        let j : value c t s.j ≡ value c u s.j = same s.j (has_first s.j s.j (s.k ∷ without place places) refl) in
        let k : value c t s.k ≡ value c u s.k = same s.k (has_later s.k s.j (s.k ∷ without place places) (has_first s.k s.k (without place places) refl)) in
        ap (value c t) at_p ∙ value-step c t i s is.steps at ∙ ap₂ (apply s.op) j k ∙ sym (value-step c u i s is.steps at) ∙ ap (value c u) (sym at_p)

    place_of : has p (without place places) ≡ false → p ≡ place
    place_of gone = elim (cases_eq p place) [
      | inl here ↦ here
      | inr apart ↦ absurd (true_false (sym (without_keeps place p places apart h) ∙ gone))
    ]

-- The values of places depend on at most as many inputs as there are places and steps below them.
pub rests : (c : Chain) → IsChain c → (i : ℕ) (places : List ℕ) → i ≤ length c.steps → ((p : ℕ) → has p places ≡ true → (1 ≤ p) × (p ≤ c.n + i)) → Rests c places i
rests c is zero places within low = record {
  base = places;
  inputs = λ p h. ((low p h).0, omega (arith, (low p h).1));
  few = omega arith;
  follow = λ t u same. same;
}
rests c is (suc i) places within low = elim (cases_Bool (has (c.n + 1 + i) places)) [
  | inl taken ↦
      let found = step_there c.steps i (omega arith) in
      let place : ℕ = c.n + 1 + i in
      let here : IsStepAt place found.0 = is.steps.each i found.0 found.1 in
      let below = rests c is i (exchanged place found.0 places) (omega arith) (exchanged_low c.n i place found.0 places refl here low) in
      record {
        base = below.base;
        inputs = below.inputs;
        few = omega (arith, below.few, without_less place places taken);
        follow = λ t u same. exchanged_same c i place found.0 places t u refl is found.1 (below.follow t u same);
      }
  | inr free ↦
      let below = rests c is i places (omega arith) (λ p h. ((low p h).0, not_last p h free)) in
      record {
        base = below.base;
        inputs = below.inputs;
        few = omega (arith, below.few);
        follow = below.follow;
      }
]
  where
    not_last : (p : ℕ) → has p places ≡ true → has (c.n + 1 + i) places ≡ false → p ≤ c.n + i
    not_last p h free = elim (cases_eq p (c.n + 1 + i)) [
      | inl last ↦ absurd (true_false (sym h ∙ (ap (λ (q : ℕ). has q places) last ∙ free)))
      | inr other ↦ omega (arith, other, (low p h).1)
    ]

-- ---- the places of outs

with_place : Out → List ℕ → List ℕ
with_place kinds.Zero places = places
with_place kinds.One places = places
with_place (kinds.Place p) places = p ∷ places

-- the out of output h
abbrev out_of : List Out → ℕ → Out
out_of outs h = slice_index_or outs (h - 1) kinds.Zero

-- the places that are outs of these outputs
out_places : List Out → List ℕ → List ℕ
out_places outs [] = []
out_places outs (h ∷ hs) = with_place (out_of outs h) (out_places outs hs)

with_few : (out : Out) (places : List ℕ) → length (with_place out places) ≤ suc (length places)
unfolding with_place
with_few kinds.Zero places = omega arith
with_few kinds.One places = omega arith
with_few (kinds.Place p) places = omega arith

places_few : (outs : List Out) (hs : List ℕ) → length (out_places outs hs) ≤ length hs
unfolding out_places
places_few outs [] = omega arith
places_few outs (h ∷ hs) = omega (arith, with_few (out_of outs h) (out_places outs hs), places_few outs hs)

with_low : (last : ℕ) (out : Out) (places : List ℕ) → NamesPlace last out →
    ((p : ℕ) → has p places ≡ true → (1 ≤ p) × (p ≤ last)) → (p : ℕ) → has p (with_place out places) ≡ true → (1 ≤ p) ×
    (p ≤ last)
unfolding with_place
with_low last kinds.Zero places names low p h = low p h
with_low last kinds.One places names low p h = low p h
with_low last (kinds.Place q) places names low p h = elim (has_cases p q places h) [
  | inl first ↦ (omega (arith, first, names.0), omega (arith, first, names.1))
  | inr later ↦ low p later
]

places_low : (last : ℕ) (outs : List Out) (hs : List ℕ) → ((h : ℕ) → Contains hs h → NamesPlace last (out_of outs h)) → (p : ℕ) → has p (out_places outs hs) ≡ true → (1 ≤ p) × (p ≤ last)
unfolding out_places
places_low last outs [] names = λ p h. absurd (has_none p h)
places_low last outs (g ∷ hs) names = with_low last (out_of outs g) (out_places outs hs)
    (names g (0, omega arith, refl)) (places_low last outs hs (λ h c. names h (Contains-append_right (g ∷ []) hs h c)))

-- an out has equal values on two rows on which its place has
with_first : (c : Chain) (out : Out) (places : List ℕ) (t u : ℕ) → AreSame c (with_place out places) t u → out_value c t out ≡ out_value c u out
unfolding with_place
with_first c kinds.Zero places t u same = refl
with_first c kinds.One places t u same = refl
with_first c (kinds.Place p) places t u same = same p (has_first p p places refl)

with_rest : (c : Chain) (out : Out) (places : List ℕ) (t u : ℕ) → AreSame c (with_place out places) t u → AreSame c places t u
unfolding with_place
with_rest c kinds.Zero places t u same = same
with_rest c kinds.One places t u same = same
with_rest c (kinds.Place q) places t u same = λ p h. same p (has_later p q places h)

outs_same : (c : Chain) (outs : List Out) (hs : List ℕ) (t u : ℕ) → AreSame c (out_places outs hs) t u → (k : ℕ) →
    k < length hs → out_value c t (out_of outs (slice_index_or hs k 0)) ≡
    out_value c u (out_of outs (slice_index_or hs k 0))
unfolding out_places
outs_same c outs [] t u same k low = absurd (omega arith)
outs_same c outs (h ∷ hs) t u same zero low = with_first c (out_of outs h) (out_places outs hs) t u same
outs_same c outs (h ∷ hs) t u same (suc k) low = outs_same c outs hs t u (with_rest c (out_of outs h) (out_places outs hs) t u same) k (omega arith)

-- ---- inputs in use

-- no value meets both of two opposite cells
pub opposite_met : (a b : Cell) (x y : Bool) → are_opposite a b ≡ true → is_met a x ≡ true → is_met b y ≡ true → x ≡ y → ⊥
opposite_met Zero Zero x y o m n e = absurd cc
opposite_met Zero One true y o m n e = absurd cc
opposite_met Zero One false y o m n e = cc
opposite_met Zero Free x y o m n e = absurd cc
opposite_met One Zero x true o m n e = absurd cc
opposite_met One Zero x false o m n e = cc
opposite_met One One x y o m n e = absurd cc
opposite_met One Free x y o m n e = absurd cc
opposite_met Free b x y o m n e = absurd cc

-- the out of an output of the specification is a constant or a place of the chain
pub out_names : (s : Specification) (basis : Basis) (r : ℕ) (has : HasChain s basis r) (h : ℕ) → (1 ≤ h) × (h ≤ s.outputs) → NamesPlace (has.chain.n + r) (out_of has.chain.outs h)
out_names s basis r has h within =
    let inside : h - 1 < length has.chain.outs = omega (arith, has.agrees.outputs, within.0, within.1) in
    subst (λ (k : ℕ). NamesPlace (has.chain.n + k) (out_of has.chain.outs h)) has.size (has.is_chain.outs (h - 1) kinds.Zero inside)

-- Each input that is used is one of those on which the outs depend.
is_needed : (s : Specification) (basis : Basis) (r : ℕ) (chain : HasChain s basis r) (outputs : List ℕ)
    (rest : Rests chain.chain (out_places chain.chain.outs outputs) r) (j h : ℕ) → (1 ≤ h) × (h ≤ s.outputs) →
    Contains outputs h → IsInSupport s j h → has j rest.base ≡ true
is_needed s basis r chain outputs rest j h within c used = elim (cases_Bool (has j rest.base)) [
  | inl needed ↦ needed
  | inr free ↦ absurd (opposite_met (s.cell h used.row) (s.cell h used.other)
      (out_value chain.chain used.row (out_of chain.chain.outs h))
      (out_value chain.chain used.other (out_of chain.chain.outs h)) used.asked
      (chain.agrees.cells h used.row within.0 within.1 used.inside.0)
      (chain.agrees.cells h used.other within.0 within.1 used.inside.1) (same_out free))
]
  where
    same_base : has j rest.base ≡ false → AreSame chain.chain rest.base used.row used.other
    same_base free p h_p =
        let low = rest.inputs p h_p in
        let apart : p ≡ j → ⊥ = λ (e : p ≡ j). true_false (sym h_p ∙ (ap (λ (q : ℕ). has q rest.base) e ∙ free)) in
        value-input chain.chain used.row p low.1 ∙ rw (chain.agrees.inputs) (used.alone p low.0 (omega (arith, low.1, chain.agrees.inputs)) apart) ∙ sym (value-input chain.chain used.other p low.1)

    same_out : has j rest.base ≡ false → out_value chain.chain used.row (out_of chain.chain.outs h) ≡ out_value chain.chain used.other (out_of chain.chain.outs h)
    same_out free =
        subst (λ (g : ℕ). out_value chain.chain used.row (out_of chain.chain.outs g) ≡
        out_value chain.chain used.other (out_of chain.chain.outs g)) (get_or_default outputs c.0 0 h c.1
        ∙ c.2) (outs_same chain.chain chain.chain.outs outputs used.row used.other
        (rest.follow used.row used.other (same_base free)) c.0 c.1)

-- A list of outputs uses at most as many inputs as there are outputs in the list and steps in the chain
-- together.
pub inputs_few : (s : Specification) (basis : Basis) (r : ℕ) (inputs outputs : List ℕ) → AreInSupports s inputs outputs → HasChain s basis r → length inputs ≤ length outputs + r
inputs_few s basis r inputs outputs used chain =
    let c : Chain = chain.chain in
    let names = λ (h : ℕ) (is : Contains outputs h). out_names s basis r chain h (used.numbers h is) in
    let rest = rests c chain.is_chain r (out_places c.outs outputs) (omega (arith, chain.size)) (places_low (c.n + r) c.outs outputs names) in
    let room = no_longer (λ (j : ℕ). j) inputs rest.base used.different (λ j is. let by = used.used j is in is_needed s basis r chain outputs rest j by.0 (used.numbers by.0 by.1) by.1 by.2) in
    omega (arith, room, rest.few, places_few c.outs outputs)
