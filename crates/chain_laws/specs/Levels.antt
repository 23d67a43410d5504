-- A bound on levels, by numbers that increase from operands to steps.
use Rattle.std.proofs.Common.{◌≡◌, ℕ, zero, suc, ◌+◌, ◌≤◌, ◌<◌, List, length, Some, arith, ⊎_elim}
use Rattle.std.specs.Prelude.{slice_get}
use Rattle.chain_theory.specs.Chain.{Step, IsStepAt, AreSteps}
use Rattle.chain_theory.specs.Levels.{step_level, level_in}
use Rattle.chain_theory.specs.LevelLaws.{input_level, level_step}
use Rattle.chain_laws.specs.Follow.{step_at, step_at_get, place_cases}

-- If each step's number is above those of its operands, no level is above the place's number.
pub level_at_most : (n : ℕ) (steps : List Step) → AreSteps n steps → (height : ℕ → ℕ) →
    ((i : ℕ) (s : Step) → slice_get steps i ≡ Some s → (height s.j < height (n + 1 + i)) ×
    (height s.k < height (n + 1 + i))) → (bound p : ℕ) → p < bound → 1 ≤ p → p < n + 1 + length steps →
    level_in n steps p ≤ height p
level_at_most n steps are height rises zero p below from low = absurd (omega arith)
level_at_most n steps are height rises (suc bound) p below from low = ⊎_elim
    (λ (is_input : p ≤ n). omega (arith, input_level n p steps is_input))
    (λ (is_step : (i : ℕ) × (i < length steps) × (p ≡ n + 1 + i)).
    let i : ℕ = is_step.0 in
    let inside : i < length steps = is_step.1 in
    let here : p ≡ n + 1 + i = is_step.2 in
    let s : Step = step_at steps i in
    let at : slice_get steps i ≡ Some s = step_at_get steps i inside in
    let fits : IsStepAt (n + 1 + i) s = are.each i s at in
    let own : level_in n steps (n + 1 + i) ≡ step_level (level_in n steps) s = level_step n steps are i s at in
    let above_j : height s.j < height (n + 1 + i) = (rises i s at).0 in
    let above_k : height s.k < height (n + 1 + i) = (rises i s at).1 in
    let j_low : level_in n steps s.j ≤ height s.j = level_at_most n steps are height rises bound s.j (omega (arith, fits.j_below)) fits.j_from (omega (arith, fits.j_below)) in
    let k_low : level_in n steps s.k ≤ height s.k = level_at_most n steps are height rises bound s.k (omega (arith, fits.k_below)) fits.k_from (omega (arith, fits.k_below)) in
    let small : level_in n steps (n + 1 + i) ≤ height (n + 1 + i) = omega arith in
    rw here small)
    (place_cases n (length steps) p low)
