-- Recursion over the steps, step by step.
use Rattle.std.proofs.Common.{◌≡◌, ℕ, List, [], ◌∷◌, ◌++◌, refl, sym, ap, ◌∙◌, append_assoc}
use Rattle.std.specs.Prelude.{ℤ}
use Rattle.std.specs.List.{flat_map}
use Rattle.std.proofs.lemmas.Grind.{common_steps}
use Rattle.clause_core.specs.declared.raw.RawLit.{RawLit}
use Rattle.enc_theory.specs.declared.data.Dimensions.{Dimensions}
use Rattle.enc_theory.specs.Pairs.{StepSlots}
use Rattle.enc_theory.specs.Cuts.{used_by, used, order_slot, order_with, order, no_reapplication_later, no_reapplication_all, exchange_slot, readers_without, exchange_steps}

-- the clauses of one step after those before, and the remaining steps
pub walked : (f : List StepSlots → List (List ℤ)) (piece old new all : List (List ℤ)) (left later : List StepSlots)
    (s : StepSlots) → new ≡ old ++ piece → left ≡ s ∷ later → f (s ∷ later) ≡ piece ++ f later → old ++ f left ≡ all →
    new ++ f later ≡ all
walked f piece old new all left later s is split one before =
    ap (λ (xs : List (List ℤ)). xs ++ f later) is ∙ append_assoc old piece (f later) ∙ ap (λ (xs : List (List ℤ)). old ++ xs) (sym one) ∙ ap (λ (xs : List StepSlots). old ++ f xs) (sym split) ∙ before

pub used-step : (z : Dimensions) (s : StepSlots) (later : List StepSlots) → used z (s ∷ later) ≡ used_by z s later ++ used z later
unfolding used
used-step z s later = refl

pub used-none : (z : Dimensions) → used z [] ≡ []
unfolding used
used-none z = refl

pub ruleset used_walk = (common_steps, used-step, used-none)

pub order_with-none : (s : StepSlots) → order_with s [] ≡ []
unfolding order_with
order_with-none s = refl

pub order_with-some : (s next : StepSlots) (later : List StepSlots) → order_with s (next ∷ later) ≡ flat_map (order_slot next.slots) s.slots
unfolding order_with
order_with-some s next later = refl

pub ruleset order_first = (common_steps, order_with-none, order_with-some)

pub order-step : (s : StepSlots) (later : List StepSlots) → order (s ∷ later) ≡ order_with s later ++ order later
unfolding order
order-step s later = refl

pub order-none : order [] ≡ []
unfolding order
order-none = refl

pub ruleset order_walk = (common_steps, order-step, order-none)

pub no_reapplication-step : (s : StepSlots) (later : List StepSlots) → no_reapplication_all (s ∷ later) ≡ flat_map (no_reapplication_later s) later ++ no_reapplication_all later
unfolding no_reapplication_all
no_reapplication-step s later = refl

pub no_reapplication-none : no_reapplication_all [] ≡ []
unfolding no_reapplication_all
no_reapplication-none = refl

pub ruleset no_reapplication_walk = (common_steps, no_reapplication-step, no_reapplication-none)

pub exchange-step : (p q : ℕ) (before : List RawLit) (s : StepSlots) (later : List StepSlots) →
    exchange_steps p q before (s ∷ later) ≡ flat_map (exchange_slot p q before) s.slots ++
    exchange_steps p q (before ++ readers_without p q s) later
unfolding exchange_steps
exchange-step p q before s later = refl

pub exchange-none : (p q : ℕ) (before : List RawLit) → exchange_steps p q before [] ≡ []
unfolding exchange_steps
exchange-none p q before = refl

pub ruleset exchange_walk = (common_steps, exchange-step, exchange-none)

-- the same, with the literals of the steps before
pub exchanged : (p q : ℕ) (before after : List RawLit) (old new all : List (List ℤ)) (left later : List StepSlots)
    (s : StepSlots) → new ≡ old ++ flat_map (exchange_slot p q before) s.slots → left ≡ s ∷ later → after ≡ before ++
    readers_without p q s → old ++ exchange_steps p q before left ≡ all → new ++ exchange_steps p q after later ≡ all
exchanged p q before after old new all left later s is split more at =
    let piece = flat_map (exchange_slot p q before) s.slots in
    let rest = exchange_steps p q (before ++ readers_without p q s) later in
    ap (λ (xs : List RawLit). new ++ exchange_steps p q xs later) more
    ∙ ap (λ (xs : List (List ℤ)). xs ++ rest) is
    ∙ append_assoc old piece rest
    ∙ ap (λ (xs : List (List ℤ)). old ++ xs) (sym (exchange-step p q before s later))
    ∙ ap (λ (xs : List StepSlots). old ++ exchange_steps p q before xs) (sym split)
    ∙ at
