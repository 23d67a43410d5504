-- Values of places, in a list that the steps write.
use Rattle.std.proofs.Common.{◌≡◌, ℕ, ◌+◌, ◌≤◌, ◌<◌, Bool, false, List, [], ◌∷◌, length, set, refl, ap, ◌∙◌, arith}
use Rattle.std.proofs.lemmas.Grind.{common_steps}
use Rattle.chain_theory.specs.Chain.{Step, IsStepAt, AreSteps}
use Rattle.chain_theory.specs.Value.{extended, step_value, values_after, values_on}
use Rattle.chain_theory.specs.Specification.{input}
use Rattle.std.specs.Prelude.{slice_index_or}
use Rattle.chain_core.specs.Bits.{bits}
use Rattle.chain_core.specs.StepLaws.{first_step, other_steps}

-- the same at one place
bits_set_at : (values : List Bool) (place : ℕ) (bit : Bool) (p : ℕ) → place < length values → bits (set values place bit) p ≡ extended (bits values) place bit p
unfolding bits
bits_set_at values place bit p inside = grind (arith, common_steps)

-- a write to the list sets the bit of one place
pub bits-set : (values : List Bool) (place : ℕ) (bit : Bool) → place < length values → bits (set values place bit) ≡ extended (bits values) place bit
bits-set values place bit inside = λ i p. bits_set_at values place bit p inside i

-- two runs that agree on the places from 1 to last
pub record SameUpTo (last : ℕ) (f g : ℕ → Bool) : Type 0 where
  pub each : (p : ℕ) → 1 ≤ p → p ≤ last → f p ≡ g p

-- two runs that agree still do after one more step
same_extended : (n : ℕ) (s : Step) (f g : ℕ → Bool) → IsStepAt (n + 1) s → SameUpTo n f g → SameUpTo (n + 1) (extended f (n + 1) (step_value f s)) (extended g (n + 1) (step_value g s))
same_extended n s f g at same =
    let js : f s.j ≡ g s.j = same.each s.j at.j_from (omega (arith, at.j_below)) in
    let ks : f s.k ≡ g s.k = same.each s.k at.k_from (omega (arith, at.k_below)) in
    let values : step_value f s ≡ step_value g s = rw (js, ks) refl in
    record { each = λ p from to. grind (arith, common_steps, same.each p, values) }

-- Values depend on the bits of the inputs alone.
pub same_values : (n : ℕ) (ss : List Step) (f g : ℕ → Bool) → AreSteps n ss → SameUpTo n f g → SameUpTo (n + length ss) (values_after f (n + 1) ss) (values_after g (n + 1) ss)
unfolding values_after
same_values n [] f g are same = record { each = λ p from to. same.each p from (omega arith) }
same_values n (s ∷ ss) f g are same =
    let at = first_step n s ss are in
    let rest = same_values (n + 1) ss (extended f (n + 1) (step_value f s)) (extended g (n + 1) (step_value g s)) (other_steps n s ss are) (same_extended n s f g at same) in
    record { each = λ p from to. rest.each p from (omega arith) }

-- one step of a run over a list
pub values_after-set : (values : List Bool) (last : ℕ) (s : Step) (ss : List Step) (bit : Bool) →
    last + 1 < length values → bit ≡ step_value (bits values) s →
    values_after (bits (set values (last + 1) bit)) (last + 1 + 1) ss ≡ values_after (bits values) (last + 1) (s ∷ ss)
unfolding values_after
values_after-set values last s ss bit inside e = rw (bits-set values (last + 1) bit inside, e) refl

-- the list has the value of each place after the inputs' bits and the steps' values were written
pub value_is : (values inputs : List Bool) (n t : ℕ) (steps : List Step) (place : ℕ) →
    bits values ≡ values_after (bits inputs) (n + 1) steps → ((p : ℕ) → 1 ≤ p → p ≤ n → bits inputs p ≡ input n t p) →
    AreSteps n steps → 1 ≤ place → place ≤ n + length steps →
    slice_index_or values place false ≡ values_on n t steps place
unfolding bits
value_is values inputs n t steps place ran put are from to =
    let here : bits values place ≡ values_after (bits inputs) (n + 1) steps place = ap (λ (f : ℕ → Bool). f place) ran in
    here ∙ (same_values n steps (bits inputs) (input n t) are (record { each = put })).each place from to
