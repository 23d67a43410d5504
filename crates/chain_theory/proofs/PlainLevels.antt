-- Levels as `plain` computes them, step by step from the last.
use Rattle.std.proofs.Common.{◌≡◌, ◌≢◌, ℕ, ◌+◌, List, [], ◌∷◌, ◌++◌, length, refl, ◌∙◌, ap, arith}
use Rattle.std.proofs.lemmas.List.{map-append, length-map}
use Rattle.chain_theory.specs.Chain.{Step}
use Rattle.chain_theory.specs.Levels.{placed, step_level, levels_after, level_in}
use Rattle.chain_theory.specs.LevelLaws.{levels_after-push, placed-same, placed-other}
use Rattle.chain_theory.specs.Plain.{step_of, steps_of}
use Rattle.chain_theory.specs.declared.plain.PlainStep.{PlainStep}

-- With no step each place has the level 0.
pub level_in-none : (n place : ℕ) (steps : List PlainStep) → length steps ≡ 0 → level_in n (steps_of steps) place ≡ 0
unfolding levels_after
level_in-none n place [] e = refl
level_in-none n place (s ∷ ss) e = absurd (omega arith)

-- The last step sets the level of its own place.
pub level_in-push : (n place : ℕ) (steps before : List PlainStep) (last : PlainStep) → steps ≡ before ++ last ∷ [] →
    level_in n (steps_of steps) place ≡ placed (level_in n (steps_of before)) (n + 1 + length before)
    (step_level (level_in n (steps_of before)) (step_of last)) place
level_in-push n place steps before last e =
    ap (λ (xs : List PlainStep). level_in n (steps_of xs) place) e
    ∙ ap (λ (xs : List Step). level_in n xs place) (map-append step_of before (last ∷ []))
    ∙ ap (λ (levels : ℕ → ℕ). levels place) (levels_after-push (λ (p : ℕ). 0) (n + 1) (steps_of before) (step_of last))
    ∙ ap (λ m. placed (level_in n (steps_of before)) (n + 1 + m) (step_level (level_in n (steps_of before)) (step_of last)) place) (length-map before step_of)

-- The place of the last step has that step's level.
pub level_in-last : (n place : ℕ) (steps before : List PlainStep) (last : PlainStep) → steps ≡ before ++ last ∷ [] →
    place ≡ n + 1 + length before → level_in n (steps_of steps) place ≡
    step_level (level_in n (steps_of before)) (step_of last)
level_in-last n place steps before last e own =
    level_in-push n place steps before last e ∙ placed-same (level_in n (steps_of before)) (n + 1 + length before) place (step_level (level_in n (steps_of before)) (step_of last)) own

-- Any other place has the level that the earlier steps leave.
pub level_in-before : (n place : ℕ) (steps before : List PlainStep) (last : PlainStep) → steps ≡ before ++ last ∷ [] →
    place ≢ n + 1 + length before → level_in n (steps_of steps) place ≡ level_in n (steps_of before) place
level_in-before n place steps before last e other =
    level_in-push n place steps before last e ∙ placed-other (level_in n (steps_of before)) (n + 1 + length before) place (step_level (level_in n (steps_of before)) (step_of last)) other
