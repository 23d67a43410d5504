-- Steps at their places, from the first to the last.
use Rattle.std.proofs.Common.{◌≡◌, ℕ, zero, suc, ◌+◌, List, [], ◌∷◌, ◌++◌, length, Some, refl, ap, ◌∙◌, arith, subst}
use Rattle.std.specs.Prelude.{slice_get}
use Rattle.std.proofs.lemmas.List.{length-map, map-append}
use Rattle.std.proofs.lemmas.Grind.{common_steps}
use Rattle.chain_theory.specs.Chain as chain
use Rattle.chain_theory.specs.Chain.{AreSteps, IsStepAt}
use Rattle.chain_core.specs.declared.step.Step.{Step}
use Rattle.chain_core.specs.Steps.{step_of, steps_of}

-- the first step is at the first place after the inputs
pub first_step : (n : ℕ) (s : chain.Step) (ss : List chain.Step) → AreSteps n (s ∷ ss) → IsStepAt (n + 1) s
first_step n s ss are = let e : n + 1 + 0 ≡ n + 1 = omega arith in subst (λ (place : ℕ). IsStepAt place s) e (are.each 0 s refl)

-- the others follow it
pub other_steps : (n : ℕ) (s : chain.Step) (ss : List chain.Step) → AreSteps n (s ∷ ss) → AreSteps (n + 1) ss
other_steps n s ss are = record { each = λ i t is. let e : n + 1 + suc i ≡ n + 1 + 1 + i = omega arith in subst (λ (place : ℕ). IsStepAt place t) e (are.each (suc i) t is) }

pub ruleset standing = (common_steps, first_step)

-- no steps
pub no_steps : (n : ℕ) → AreSteps n []
no_steps n = record { each = λ i t is. absurd cc }

-- each step of a list with one more at the head is at its place
each_of_more : (n : ℕ) (s : chain.Step) (ss : List chain.Step) → IsStepAt (n + 1) s → AreSteps (n + 1) ss → (i : ℕ) (t : chain.Step) → slice_get (s ∷ ss) i ≡ Some t → IsStepAt (n + 1 + i) t
each_of_more n s ss at are zero t is =
    let same : s ≡ t = cc in
    let e : n + 1 ≡ n + 1 + 0 = omega arith in
    subst (λ (place : ℕ). IsStepAt place t) e (subst (λ (r : chain.Step). IsStepAt (n + 1) r) same at)
each_of_more n s ss at are (suc i) t is =
    let e : n + 1 + 1 + i ≡ n + 1 + suc i = omega arith in
    subst (λ (place : ℕ). IsStepAt place t) e (are.each i t is)

-- a step before others
pub more_in_prefix : (n : ℕ) (s : chain.Step) (ss : List chain.Step) → IsStepAt (n + 1) s → AreSteps (n + 1) ss → AreSteps n (s ∷ ss)
more_in_prefix n s ss at are = record { each = each_of_more n s ss at are }

-- a step after others
pub more_after : (n : ℕ) (ss : List chain.Step) (s : chain.Step) → AreSteps n ss → IsStepAt (n + 1 + length ss) s → AreSteps n (ss ++ s ∷ [])
more_after n [] s are at =
    let e : n + 1 + 0 ≡ n + 1 = omega arith in
    more_in_prefix n s [] (subst (λ (place : ℕ). IsStepAt place s) e at) (no_steps (n + 1))
more_after n (r ∷ ss) s are at =
    let e : n + 1 + suc (length ss) ≡ n + 1 + 1 + length ss = omega arith in
    more_in_prefix n r (ss ++ s ∷ []) (first_step n r ss are) (more_after (n + 1) ss s (other_steps n r ss are) (subst (λ (place : ℕ). IsStepAt place s) e at))

-- the same for steps as the program holds them
pub steps_push : (n : ℕ) (xs more : List Step) (x : Step) → more ≡ xs ++ x ∷ [] → AreSteps n (steps_of xs) → IsStepAt (n + 1 + length xs) (step_of x) → AreSteps n (steps_of more)
steps_push n xs more x e are at =
    let mapped : steps_of more ≡ steps_of xs ++ step_of x ∷ [] = ap steps_of e ∙ map-append step_of xs (x ∷ []) in
    rw mapped (more_after n (steps_of xs) (step_of x) are (rw length-map at))
