-- Values as `plain` computes them, step by step from the last.
use Rattle.std.proofs.Common.{◌≡◌, ◌≢◌, ℕ, ◌+◌, Bool, List, [], ◌∷◌, ◌++◌, length, refl, ◌∙◌, ap, arith}
use Rattle.std.proofs.lemmas.List.{map-append, length-map}
use Rattle.chain_theory.specs.Specification.{input}
use Rattle.chain_theory.specs.Chain.{Step}
use Rattle.chain_theory.specs.Value.{extended, step_value, values_after, values_on}
use Rattle.chain_theory.specs.ValueLaws.{values_after-push, extended-same, extended-other}
use Rattle.chain_theory.specs.Plain.{step_of, steps_of}
use Rattle.chain_theory.specs.declared.plain.PlainStep.{PlainStep}

-- With no step a place has the bit of its input.
pub values_on-none : (n t place : ℕ) (steps : List PlainStep) → length steps ≡ 0 → values_on n t (steps_of steps) place ≡ input n t place
unfolding values_after
values_on-none n t place [] e = refl
values_on-none n t place (s ∷ ss) e = absurd (omega arith)

-- The last step sets the bit of its own place.
pub values_on-push : (n t place : ℕ) (steps before : List PlainStep) (last : PlainStep) → steps ≡ before ++ last ∷ [] →
    values_on n t (steps_of steps) place ≡ extended (values_on n t (steps_of before)) (n + 1 + length before)
    (step_value (values_on n t (steps_of before)) (step_of last)) place
values_on-push n t place steps before last e =
    ap (λ (xs : List PlainStep). values_on n t (steps_of xs) place) e
    ∙ ap (λ (xs : List Step). values_on n t xs place) (map-append step_of before (last ∷ []))
    ∙ ap (λ (bits : ℕ → Bool). bits place) (values_after-push (input n t) (n + 1) (steps_of before) (step_of last))
    ∙ ap (λ m. extended (values_on n t (steps_of before)) (n + 1 + m) (step_value (values_on n t (steps_of before)) (step_of last)) place) (length-map before step_of)

-- The place of the last step has that step's value.
pub values_on-last : (n t place : ℕ) (steps before : List PlainStep) (last : PlainStep) → steps ≡ before ++ last ∷ [] →
    place ≡ n + 1 + length before → values_on n t (steps_of steps) place ≡ step_value (values_on n t (steps_of before))
    (step_of last)
values_on-last n t place steps before last e own =
    values_on-push n t place steps before last e ∙ extended-same (values_on n t (steps_of before)) (n + 1 + length before) place (step_value (values_on n t (steps_of before)) (step_of last)) own

-- Any other place has the value that the earlier steps leave.
pub values_on-before : (n t place : ℕ) (steps before : List PlainStep) (last : PlainStep) → steps ≡ before ++
    last ∷ [] → place ≢ n + 1 + length before → values_on n t (steps_of steps) place ≡
    values_on n t (steps_of before) place
values_on-before n t place steps before last e other =
    values_on-push n t place steps before last e ∙ extended-other (values_on n t (steps_of before)) (n + 1 + length before) place (step_value (values_on n t (steps_of before)) (step_of last)) other
