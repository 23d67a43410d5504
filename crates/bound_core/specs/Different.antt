-- A chain has at least as many steps as there are live outputs that differ pairwise: a live output is
-- neither a constant nor an input, so it is at a step's place, and outputs that differ are at
-- different places.
use Rattle.std.proofs.Common.{◌≡◌, ℕ, zero, suc, ◌+◌, ◌-◌, ◌<◌, ◌≤◌, ◌^◌, true, false, List, [], ◌∷◌, length, Contains, Option, Some, None, refl, sym, ap, ◌∙◌, arith, inl, inr}
use Rattle.std.specs.Prelude.{slice_index_or, AllPairs}
use Rattle.std.proofs.lemmas.List.Elements.{Contains-get_or}
use Rattle.std.proofs.lemmas.Bool.{cases_lt}
use Rattle.chain_theory.specs.Operator.{Basis}
use Rattle.chain_theory.specs.Specification.{Specification}
use Rattle.chain_theory.specs.Chain.{Chain, NamesPlace}
use Rattle.chain_theory.specs.Value.{out_value}
use Rattle.chain_theory.specs.ValueLaws.{value-input}
use Rattle.chain_theory.specs.Agreement.{is_met, HasChain}
use Rattle.chain_theory.specs.declared.data.Out.{Out}
use Rattle.chain_theory.specs.declared.data.Out.TheVariants as kinds
use Rattle.tt_core.specs.Live.{trivial_value, fits, trivial_of, is_none, is_live, IsTrivial}
use Rattle.tt_core.specs.Laws.{meets_fits}
use Rattle.tt_core.specs.FirstFitLaws.{none_fits}
use Rattle.bound_core.specs.Support.{OutputsDiffer, AreLiveApart}
use Rattle.bound_core.specs.Places.{has, has_first, has_later, no_longer}
use Rattle.bound_core.specs.Needed.{opposite_met, out_names}

-- the places of a chain's steps, the last one first
step_places : ℕ → ℕ → List ℕ
step_places n zero = []
step_places n (suc r) = (n + suc r) ∷ step_places n r

steps_count : (n r : ℕ) → length (step_places n r) ≡ r
unfolding step_places
steps_count n zero = refl
steps_count n (suc r) = ap suc (steps_count n r)

steps_have : (n r p : ℕ) → n < p → p ≤ n + r → has p (step_places n r) ≡ true
unfolding step_places
steps_have n zero p from to = absurd (omega arith)
steps_have n (suc r) p from to = elim (cases_lt p (n + suc r)) [
  | inl below ↦ has_later p (n + suc r) (step_places n r) (steps_have n r p from (omega arith))
  | inr last ↦ has_first p (n + suc r) (step_places n r) (omega arith)
]

-- the place of an out; 0 for a constant
place_of : Out → ℕ
place_of kinds.Zero = 0
place_of kinds.One = 0
place_of (kinds.Place p) = p

none_is : (o : Option Out) → is_none o ≡ true → o ≡ None
none_is None e = refl
none_is (Some out) e = absurd cc

-- a live output misses some cell with each trivial out
live_misses : (s : Specification) (h : ℕ) (out : Out) → is_live s h ≡ true → IsTrivial s.inputs out → ((t : ℕ) → t < 2 ^ s.inputs → is_met (s.cell h t) (trivial_value s.inputs t out) ≡ true) → ⊥
unfolding is_live
live_misses s h out live trivial met =
    let missed : fits s h out ≡ false = none_fits s h (none_is (trivial_of s h) live) out trivial in
    let fit : fits s h out ≡ true = meets_fits s h out met in
    absurd cc

-- the out of a live output is a step's place
live_place : (s : Specification) (c : Chain) (h : ℕ) (out : Out) (last : ℕ) → c.n ≡ s.inputs → is_live s h ≡ true →
    NamesPlace last out → ((t : ℕ) → t < 2 ^ s.inputs → is_met (s.cell h t) (out_value c t out) ≡ true) →
    (c.n < place_of out) × (place_of out ≤ last) × (out ≡ kinds.Place (place_of out))
unfolding place_of
live_place s c h kinds.Zero last same live names met = absurd (live_misses s h kinds.Zero live tt met)
live_place s c h kinds.One last same live names met = absurd (live_misses s h kinds.One live tt met)
live_place s c h (kinds.Place p) last same live names met = elim (cases_lt c.n p) [
  | inl step ↦ (step, names.1, refl)
  | inr is_input ↦ absurd (live_misses s h (kinds.Place p) live (names.0, omega (arith, same)) (λ t low. rw (sym same, sym (value-input c t p (omega arith))) (met t low)))
]

-- outputs that differ have different places
places_apart : (s : Specification) (c : Chain) (g h : ℕ) (a b : Out) → OutputsDiffer s g h →
    ((t : ℕ) → t < 2 ^ s.inputs → is_met (s.cell g t) (out_value c t a) ≡ true) →
    ((t : ℕ) → t < 2 ^ s.inputs → is_met (s.cell h t) (out_value c t b) ≡ true) → a ≡ kinds.Place (place_of a) →
    b ≡ kinds.Place (place_of b) → place_of a ≡ place_of b → ⊥
places_apart s c g h a b differ met_g met_h is_a is_b e =
    let same : a ≡ b = is_a ∙ ap (λ (p : ℕ). kinds.Place p) e ∙ sym is_b in
    opposite_met (s.cell g differ.row) (s.cell h differ.row) (out_value c differ.row a)
    (out_value c differ.row b) differ.asked (met_g differ.row differ.inside) (met_h differ.row differ.inside)
    (ap (out_value c differ.row) same)

-- the out of output h
abbrev out_of : Chain → ℕ → Out
out_of c h = slice_index_or c.outs (h - 1) kinds.Zero

-- There are at most as many live outputs that differ pairwise as there are steps.
pub outputs_few : (s : Specification) (basis : Basis) (r : ℕ) (outputs : List ℕ) → AreLiveApart s outputs → HasChain s basis r → length outputs ≤ r
outputs_few s basis r outputs live chain =
    let c : Chain = chain.chain in
    let room = no_longer (λ (h : ℕ). place_of (out_of c h)) outputs (step_places c.n r) pairs (λ h is. let at = sits h is in steps_have c.n r (place_of (out_of c h)) at.0 at.1) in
    omega (arith, room, steps_count c.n r)
  where
    met : (h : ℕ) → Contains outputs h → (t : ℕ) → t < 2 ^ s.inputs → is_met (s.cell h t) (out_value chain.chain t (out_of chain.chain h)) ≡ true
    met h is t low = let within = live.numbers h is in chain.agrees.cells h t within.0 within.1 low

    sits : (h : ℕ) → Contains outputs h → (chain.chain.n < place_of (out_of chain.chain h)) ×
        (place_of (out_of chain.chain h) ≤ chain.chain.n + r) ×
        (out_of chain.chain h ≡ kinds.Place (place_of (out_of chain.chain h)))
    sits h is = live_place s chain.chain h (out_of chain.chain h) (chain.chain.n + r) chain.agrees.inputs (live.live h is) (out_names s basis r chain h (live.numbers h is)) (met h is)

    pairs : AllPairs (λ (g h : ℕ). place_of (out_of chain.chain g) ≡ place_of (out_of chain.chain h) → ⊥) outputs
    pairs i j d less within =
        let g : ℕ = slice_index_or outputs i d in
        let h : ℕ = slice_index_or outputs j d in
        let is_g = Contains-get_or outputs i d (omega arith) in
        let is_h = Contains-get_or outputs j d within in
        places_apart s chain.chain g h (out_of chain.chain g) (out_of chain.chain h) (live.apart i j d less within) (met g is_g) (met h is_h) (sits g is_g).2 (sits h is_h).2
