-- Layouts, one step at a time.
use Rattle.std.proofs.Common.{◌≡◌, ℕ, zero, suc, ◌+◌, ◌-◌, ◌≤◌, ◌<◌, List, [], ◌∷◌, ◌++◌, All, length, append_assoc, append-nil, refl, ap, sym, ◌∙◌, subst, arith}
use Rattle.std.proofs.lemmas.Grind.{common_steps}
use Rattle.std.proofs.lemmas.List.Elements.{All-nil, All-cons, All-head, All-tail}
use Rattle.enc_theory.specs.declared.data.Pair.{Pair}
use Rattle.enc_theory.specs.declared.data.Dimensions.{Dimensions}
use Rattle.enc_theory.specs.declared.data.Slot.{Slot}
use Rattle.enc_theory.specs.Pairs.{StepSlots, numbered, laid, layout, slot_count, vars_of}
use Rattle.enc_theory.specs.Numbering.{s_first}
use Rattle.enc_base.specs.Room.{IsPair, IsSlot, HasSlots}

-- ---- numbering

pub numbered-none : (v : ℕ) → numbered v [] ≡ []
unfolding numbered
numbered-none v = refl

pub numbered-more : (v : ℕ) (p : Pair) (ps : List Pair) → numbered v (p ∷ ps) ≡ record { j = p.j; k = p.k; var = v } ∷ numbered (v + 1) ps
unfolding numbered
numbered-more v p ps = refl

pub ruleset numbering = (common_steps, numbered-none, numbered-more)

pub length-numbered : (v : ℕ) (ps : List Pair) → length (numbered v ps) ≡ length ps
unfolding numbered
length-numbered v [] = refl
length-numbered v (p ∷ ps) = ap suc (length-numbered (v + 1) ps)

-- ---- laying

pub laid-none : (pairs : ℕ → List Pair) (v place last : ℕ) → last ≤ place → laid pairs v place (last - place) ≡ []
unfolding laid
laid-none pairs v place last low = let e : last - place ≡ 0 = omega arith in rw e refl

pub laid-more : (pairs : ℕ → List Pair) (v place last : ℕ) → place < last →
    laid pairs v place (last - place) ≡ record { place = place; slots = numbered v (pairs place) } ∷ laid pairs
    (v + length (pairs place)) (place + 1) (last - (place + 1))
unfolding laid
laid-more pairs v place last low = let e : last - place ≡ suc (last - (place + 1)) = omega arith in rw e refl

pub slot_count-none : slot_count [] ≡ 0
unfolding slot_count
slot_count-none = refl

pub slot_count-push : (steps : List StepSlots) (s : StepSlots) → slot_count (steps ++ s ∷ []) ≡ slot_count steps + length s.slots
unfolding slot_count
slot_count-push [] s = omega arith
slot_count-push (r ∷ steps) s = omega (arith, slot_count-push steps s)

pub ruleset laying = (common_steps, laid-none, laid-more, slot_count-none, slot_count-push, length-numbered)

-- One more step, followed by the layout of the rest, is the layout.
pub laid_on : (pairs : ℕ → List Pair) (v count place last : ℕ) (own : List Pair) (slots : List Slot)
    (old new all : List StepSlots) → place < last → own ≡ pairs place → slots ≡ numbered v own → count ≡ length own →
    new ≡ old ++ record { place = place; slots = slots } ∷ [] → old ++ laid pairs v place (last - place) ≡ all → new ++
    laid pairs (v + count) (place + 1) (last - (place + 1)) ≡ all
laid_on pairs v count place last own slots old new all low is numbers long push before =
    let step : StepSlots = record { place = place; slots = numbered v (pairs place) } in
    let more : laid pairs v place (last - place) ≡ step ∷ laid pairs (v + length (pairs place)) (place + 1) (last - (place + 1)) = laid-more pairs v place last low in
    rw (push, numbers, long, is) (append_assoc old (step ∷ []) (laid pairs (v + length (pairs place)) (place + 1) (last - (place + 1))) ∙ rw more at before)

-- if no place is left, the layout is complete
pub laid_all : (pairs : ℕ → List Pair) (v place last : ℕ) (steps all : List StepSlots) → last ≤ place → steps ++ laid pairs v place (last - place) ≡ all → steps ≡ all
laid_all pairs v place last steps all end same = rw (laid-none pairs v place last end, append-nil) at same

-- ---- the layout is within the bounds

slots_within : (vars place v : ℕ) (ps : List Pair) → All (IsPair place) ps → 1 ≤ v → v + length ps ≤ vars + 1 → All (IsSlot vars place) (numbered v ps)
unfolding numbered
slots_within vars place v [] each some few = All-nil (IsSlot vars place)
slots_within vars place v (p ∷ ps) each some few =
    let here : IsPair place p = All-head (IsPair place) p ps each in
    let u : Slot = record { j = p.j; k = p.k; var = v } in
    All-cons (IsSlot vars place) u (numbered (v + 1) ps)
    (record { j_from = here.j_from; j_below = here.j_below; k_from = here.k_from; k_below = here.k_below; var_from = some; var_within = omega (arith, few) })
    (slots_within vars place (v + 1) ps (All-tail (IsPair place) p ps each) (omega arith) (omega (arith, few)))

laid_within : (pairs : ℕ → List Pair) (below : (place : ℕ) → All (IsPair place) (pairs place)) (z : Dimensions)
    (vars v place count : ℕ) → z.n + 1 ≤ place → place + count ≤ z.n + 1 + z.r → 1 ≤ v →
    v + slot_count (laid pairs v place count) ≤ vars + 1 → All (HasSlots z vars) (laid pairs v place count)
unfolding laid slot_count
laid_within pairs below z vars v place zero from to some few = All-nil (HasSlots z vars)
laid_within pairs below z vars v place (suc count) from to some few =
    let next = v + length (pairs place) in
    let own : length (numbered v (pairs place)) ≡ length (pairs place) = length-numbered v (pairs place) in
    All-cons (HasSlots z vars) (record { place = place; slots = numbered v (pairs place) }) (laid pairs next (place + 1) count)
    (record { place = record { from = from; below = omega arith }; slots = slots_within vars place v (pairs place) (below place) some (omega (arith, few, own)) })
    (laid_within pairs below z vars next (place + 1) count (omega arith) (omega arith) (omega arith) (omega (arith, few, own)))

-- A layout's steps have pairs of places below them, whose variables are within.
pub layout_within : (pairs : ℕ → List Pair) (below : (place : ℕ) → All (IsPair place) (pairs place)) (z : Dimensions)
    (vars : ℕ) (steps : List StepSlots) → 1 ≤ s_first z → steps ≡ layout pairs z → vars ≡ vars_of z steps →
    All (HasSlots z vars) steps
layout_within pairs below z vars steps some is count =
    let few : s_first z + slot_count (layout pairs z) ≤ vars + 1 = rw (count, is) (omega arith) in
    subst (λ (ss : List StepSlots). All (HasSlots z vars) ss) (sym is) (laid_within pairs below z vars (s_first z) (z.n + 1) z.r (omega arith) (omega arith) some few)
