-- Values, characterised without recursion.
use Rattle.std.specs.Prelude.{◌≡◌, ℕ, zero, ◌+◌, ◌≤◌, ◌<◌, Bool, List, [], ◌∷◌, ◌++◌, length, slice_get, Some, refl}
use Rattle.std.proofs.Common.{add-zero, arith, sym, ◌∙◌, ap, suc, ◌≢◌}
use Rattle.std.proofs.lemmas.Bool.Decides.{nat_tests}
use Rattle.chain_theory.specs.Operator.{apply}
use Rattle.chain_theory.specs.Specification.{input}
use Rattle.chain_theory.specs.Chain.{Step, Chain, IsStepAt, AreSteps}
use Rattle.chain_theory.specs.Value.{extended, step_value, values_after, value}

-- the bit of the place that was set, and those of the others
pub extended-same : (bits : ℕ → Bool) (place p : ℕ) (bit : Bool) → p ≡ place → extended bits place bit p ≡ bit
extended-same bits place p bit e = grind (arith, nat_tests)

pub extended-other : (bits : ℕ → Bool) (place p : ℕ) (bit : Bool) → p ≢ place → extended bits place bit p ≡ bits p
extended-other bits place p bit other = grind (arith, nat_tests)

-- A step that is added at the end sets the bit of its own place, from the bits after the others.
pub values_after-push : (bits : ℕ → Bool) (place : ℕ) (ss : List Step) (s : Step) →
    values_after bits place (ss ++ s ∷ []) ≡ extended (values_after bits place ss) (place + length ss)
    (step_value (values_after bits place ss) s)
unfolding values_after
values_after-push bits place [] s = rw add-zero refl
values_after-push bits place (r ∷ ss) s =
    let e : (place + 1) + length ss ≡ place + suc (length ss) = omega arith in
    rw (← e) (values_after-push (extended bits place (step_value bits r)) (place + 1) ss s)

-- Steps don't change the bits of lower places.
pub values_after-below : (bits : ℕ → Bool) (place p : ℕ) (ss : List Step) → p < place → values_after bits place ss p ≡ bits p
unfolding values_after
values_after-below bits place p [] low = refl
values_after-below bits place p (s ∷ ss) low =
    let next : p < place + 1 = omega arith in
    let other : p ≢ place = omega arith in
    values_after-below (extended bits place (step_value bits s)) (place + 1) p ss next ∙ extended-other bits place p (step_value bits s) other

-- a step with operands of equal bits has the same value
step_value-same : (f g : ℕ → Bool) (s : Step) → f s.j ≡ g s.j → f s.k ≡ g s.k → step_value f s ≡ step_value g s
step_value-same f g s ej ek = rw (ej, ek) refl

-- The value at a step's place is its operator on the values of its operands.
pub values_after-step : (bits : ℕ → Bool) (place i : ℕ) (ss : List Step) (s : Step) → slice_get ss i ≡ Some s →
    s.j < place + i → s.k < place + i → values_after bits place ss (place + i) ≡
    step_value (values_after bits place ss) s
unfolding values_after
values_after-step bits place i [] s at j_low k_low = cc
values_after-step bits place zero (r ∷ ss) s at j_low k_low =
    let same : r ≡ s = cc in
    let own : place + 0 ≡ place = add-zero place in
    let j_below : s.j < place = omega arith in
    let k_below : s.k < place = omega arith in
    let j_next : s.j < place + 1 = omega arith in
    let k_next : s.k < place + 1 = omega arith in
    let j_other : s.j ≢ place = omega arith in
    let k_other : s.k ≢ place = omega arith in
    let p_next : place < place + 1 = omega arith in
    let first : ℕ → Bool = extended bits place (step_value bits r) in
    let after : ℕ → Bool = values_after first (place + 1) ss in
    ap after own
    ∙ values_after-below first (place + 1) place ss p_next
    ∙ extended-same bits place place (step_value bits r) refl
    ∙ ap (λ (x : Step). step_value bits x) same
    ∙ step_value-same bits after s
    (sym (values_after-below first (place + 1) s.j ss j_next ∙ extended-other bits place s.j (step_value bits r) j_other))
    (sym (values_after-below first (place + 1) s.k ss k_next ∙ extended-other bits place s.k (step_value bits r) k_other))
values_after-step bits place (suc i) (r ∷ ss) s at j_low k_low =
    let e : (place + 1) + i ≡ place + suc i = omega arith in
    let j_next : s.j < (place + 1) + i = omega arith in
    let k_next : s.k < (place + 1) + i = omega arith in
    let first : ℕ → Bool = extended bits place (step_value bits r) in
    rw (← e) (values_after-step first (place + 1) i ss s at j_next k_next)

-- an input's place has its bit
pub value-input : (c : Chain) (t p : ℕ) → p ≤ c.n → value c t p ≡ input c.n t p
value-input c t p within =
    let low : p < c.n + 1 = omega arith in
    values_after-below (input c.n t) (c.n + 1) p c.steps low

-- a step's place has its operator's value
pub value-step : (c : Chain) (t i : ℕ) (s : Step) → AreSteps c.n c.steps → slice_get c.steps i ≡ Some s → value c t (c.n + 1 + i) ≡ apply s.op (value c t s.j) (value c t s.k)
value-step c t i s are at =
    let here : IsStepAt (c.n + 1 + i) s = are.each i s at in
    values_after-step (input c.n t) (c.n + 1) i c.steps s at here.j_below here.k_below
