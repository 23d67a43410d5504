-- Levels, characterised without recursion.
use Rattle.std.specs.Prelude.{◌≡◌, ℕ, zero, suc, ◌+◌, ◌-◌, ◌≤◌, ◌<◌, List, [], ◌∷◌, ◌++◌, length, slice_get, Some, refl}
use Rattle.std.proofs.Common.{add-zero, arith, sym, ◌∙◌, ap, ◌≢◌, inl, inr}
use Rattle.std.proofs.lemmas.Bool.{cases_lt}
use Rattle.std.proofs.lemmas.Bool.Decides.{nat_tests}
use Rattle.chain_theory.specs.Chain.{Step, Chain, IsStepAt, AreSteps}
use Rattle.chain_theory.specs.Levels.{placed, step_level, levels_after, level_in, level, HasLevels, greatest, depth}

-- the level of the place that was set, and those of the others
pub placed-same : (levels : ℕ → ℕ) (place p level : ℕ) → p ≡ place → placed levels place level p ≡ level
placed-same levels place p level e = grind (arith, nat_tests)

pub placed-other : (levels : ℕ → ℕ) (place p level : ℕ) → p ≢ place → placed levels place level p ≡ levels p
placed-other levels place p level other = grind (arith, nat_tests)

-- A step that is added at the end sets the level of its own place, from the levels after the others.
pub levels_after-push : (levels : ℕ → ℕ) (place : ℕ) (ss : List Step) (s : Step) →
    levels_after levels place (ss ++ s ∷ []) ≡ placed (levels_after levels place ss) (place + length ss)
    (step_level (levels_after levels place ss) s)
unfolding levels_after
levels_after-push levels place [] s = rw add-zero refl
levels_after-push levels place (r ∷ ss) s =
    let e : (place + 1) + length ss ≡ place + suc (length ss) = omega arith in
    rw (← e) (levels_after-push (placed levels place (step_level levels r)) (place + 1) ss s)

-- Steps don't change the levels of lower places.
pub levels_after-below : (levels : ℕ → ℕ) (place p : ℕ) (ss : List Step) → p < place → levels_after levels place ss p ≡ levels p
unfolding levels_after
levels_after-below levels place p [] low = refl
levels_after-below levels place p (s ∷ ss) low =
    let next : p < place + 1 = omega arith in
    let other : p ≢ place = omega arith in
    levels_after-below (placed levels place (step_level levels s)) (place + 1) p ss next ∙ placed-other levels place p (step_level levels s) other

-- a step with operands at equal levels has the same level
step_level-same : (f g : ℕ → ℕ) (s : Step) → f s.j ≡ g s.j → f s.k ≡ g s.k → step_level f s ≡ step_level g s
step_level-same f g s ej ek = rw (ej, ek) refl

-- The level at a step's place is one more than the larger level of its operands.
pub levels_after-step : (levels : ℕ → ℕ) (place i : ℕ) (ss : List Step) (s : Step) → slice_get ss i ≡ Some s →
    s.j < place + i → s.k < place + i → levels_after levels place ss (place + i) ≡
    step_level (levels_after levels place ss) s
unfolding levels_after
levels_after-step levels place i [] s at j_low k_low = cc
levels_after-step levels place zero (r ∷ ss) s at j_low k_low =
    let same : r ≡ s = cc in
    let own : place + 0 ≡ place = add-zero place in
    let j_next : s.j < place + 1 = omega arith in
    let k_next : s.k < place + 1 = omega arith in
    let j_other : s.j ≢ place = omega arith in
    let k_other : s.k ≢ place = omega arith in
    let p_next : place < place + 1 = omega arith in
    let first : ℕ → ℕ = placed levels place (step_level levels r) in
    let after : ℕ → ℕ = levels_after first (place + 1) ss in
    ap after own
    ∙ levels_after-below first (place + 1) place ss p_next
    ∙ placed-same levels place place (step_level levels r) refl
    ∙ ap (λ (x : Step). step_level levels x) same
    ∙ step_level-same levels after s
    (sym (levels_after-below first (place + 1) s.j ss j_next ∙ placed-other levels place s.j (step_level levels r) j_other))
    (sym (levels_after-below first (place + 1) s.k ss k_next ∙ placed-other levels place s.k (step_level levels r) k_other))
levels_after-step levels place (suc i) (r ∷ ss) s at j_low k_low =
    let e : (place + 1) + i ≡ place + suc i = omega arith in
    let j_next : s.j < (place + 1) + i = omega arith in
    let k_next : s.k < (place + 1) + i = omega arith in
    let first : ℕ → ℕ = placed levels place (step_level levels r) in
    rw (← e) (levels_after-step first (place + 1) i ss s at j_next k_next)

-- an input's place has the level 0
pub input_level : (n p : ℕ) (steps : List Step) → p ≤ n → level_in n steps p ≡ 0
input_level n p steps low =
    let below : p < n + 1 = omega arith in
    levels_after-below (λ (q : ℕ). 0) (n + 1) p steps below

-- a step's level is one more than the larger level of its operands
pub level_step : (n : ℕ) (steps : List Step) → AreSteps n steps → (i : ℕ) (s : Step) → slice_get steps i ≡ Some s → level_in n steps (n + 1 + i) ≡ step_level (level_in n steps) s
level_step n steps are i s at =
    let here : IsStepAt (n + 1 + i) s = are.each i s at in
    levels_after-step (λ (q : ℕ). 0) (n + 1) i steps s at here.j_below here.k_below

-- a step's level is above those of its operands
pub level_rises : (n : ℕ) (steps : List Step) → AreSteps n steps → (i : ℕ) (s : Step) → slice_get steps i ≡ Some s →
    (level_in n steps s.j < level_in n steps (n + 1 + i)) × (level_in n steps s.k < level_in n steps (n + 1 + i))
level_rises n steps are i s at = let own = level_step n steps are i s at in (omega arith, omega arith)

-- ---- the greatest level

-- no number is above the greatest
greatest-bound : (f : ℕ → ℕ) (k i : ℕ) → i < k → f i ≤ greatest f k
unfolding greatest
greatest-bound f zero i low = absurd (omega arith)
greatest-bound f (suc k) i low = elim (cases_lt i k) [
  | inl below ↦ omega (arith, greatest-bound f k i below)
  | inr past ↦ let same : i ≡ k = omega arith in omega (arith, ap f same)
]

-- and a bound of all numbers is at least the greatest
greatest-least : (f : ℕ → ℕ) (k d : ℕ) → ((i : ℕ) → i < k → f i ≤ d) → greatest f k ≤ d
unfolding greatest
greatest-least f zero d each = omega arith
greatest-least f (suc k) d each = omega (arith, each k (omega arith), greatest-least f k d (λ i low. each i (omega arith)))

-- No place has a level above the depth,
pub depth-bound : (c : Chain) → HasLevels (depth c) c
depth-bound c p from to = elim (cases_lt p (c.n + 1)) [
  | inl is_input ↦ omega (arith, input_level c.n p c.steps (omega arith))
  | inr is_step ↦
      let i : ℕ = p - (c.n + 1) in
      let here : c.n + 1 + i ≡ p = omega arith in
      let inside : i < length c.steps = omega arith in
      omega (arith, greatest-bound (λ (k : ℕ). level c (c.n + 1 + k)) (length c.steps) i inside, ap (level c) here)
]

-- and the depth is the least number that bounds all levels.
pub depth-least : (c : Chain) (d : ℕ) → HasLevels d c → depth c ≤ d
depth-least c d has = greatest-least (λ (k : ℕ). level c (c.n + 1 + k)) (length c.steps) d (λ i low. has (c.n + 1 + i) (omega arith) (omega arith))
