-- Functions of a chain's places that are determined step by step, such as values and levels.
use Rattle.std.proofs.Common.{◌≡◌, ℕ, zero, suc, ◌+◌, ◌≤◌, ◌<◌, ◌==◌, Bool, List, [], ◌∷◌, ◌++◌, length, Some, refl, sym, ap, ◌∙◌, arith, inl, inr, ⊎_elim, add-zero, ◌-◌, ◌⊎◌, get_or, subst}
use Rattle.std.specs.Prelude.{slice_get, slice_index_or, map, if◌then◌else◌}
use Rattle.std.specs.List.{All, range_with_len}
use Rattle.std.proofs.lemmas.List.Elements.{All-get_or}
use Rattle.std.proofs.lemmas.Option.{slice_get_within, slice_get-get_or}
use Rattle.std.proofs.lemmas.List.FromFn.{get_or-map-range_with_len, length-map-range_with_len}
use Rattle.std.proofs.lemmas.Bool.{cases_eq, cases_lt}
use Rattle.std.proofs.lemmas.Bool.Decides.{nat_tests}
use Rattle.chain_theory.specs.Specification.{input}
use Rattle.chain_theory.specs.Chain.{Step, IsStepAt, AreSteps}
use Rattle.chain_theory.specs.Value.{extended, step_value, values_after, values_on}

-- ---- a run over the steps

-- the function, changed at one place
abbrev pub with_own : {V : Type 0} → (ℕ → V) → ℕ → V → ℕ → V
with_own has place own p = if p == place then own else has p

-- The run of f over a list of steps: each step's place gets the result of f on the lower places. The
-- first step is at the given place.
-- Example: if f is 1 + the larger number of the operands, and inputs have 0, the run gives the level of
-- each place.
unfoldable pub run : {V : Type 0} → ((ℕ → V) → Step → V) → (ℕ → V) → ℕ → List Step → ℕ → V
run f has place [] = has
run f has place (s ∷ ss) = run f (with_own has place (f has s)) (place + 1) ss

-- f depends only on the step and the numbers of its operands
pub record IsLocal {V : Type 0} (f : (ℕ → V) → Step → V) : Type 0 where
  pub same : (a b : ℕ → V) (s : Step) → a s.j ≡ b s.j → a s.k ≡ b s.k → f a s ≡ f b s

-- each step's place has the result of f; the first step is at the given place
pub record FollowsAt {V : Type 0} (f : (ℕ → V) → Step → V) (has : ℕ → V) (place : ℕ) (steps : List Step) : Type 0 where
  pub each : (i : ℕ) (s : Step) → slice_get steps i ≡ Some s → has (place + i) ≡ f has s

-- operands are lower places; the first step is at the given place
pub record AreStepsAt (place : ℕ) (steps : List Step) : Type 0 where
  pub each : (i : ℕ) (s : Step) → slice_get steps i ≡ Some s → IsStepAt (place + i) s

pub own_has : {V : Type 0} (has : ℕ → V) (place p : ℕ) (own : V) → p ≡ place → with_own has place own p ≡ own
own_has has place p own e = grind (arith, nat_tests)

pub other_has : {V : Type 0} (has : ℕ → V) (place p : ℕ) (own : V) → (p ≡ place → ⊥) → with_own has place own p ≡ has p
other_has has place p own other = grind (arith, nat_tests)

-- Steps don't change lower places.
pub run_below : {V : Type 0} (f : (ℕ → V) → Step → V) (has : ℕ → V) (place : ℕ) (steps : List Step) (p : ℕ) → p < place → run f has place steps p ≡ has p
unfolding run
run_below f has place [] p low = refl
run_below f has place (s ∷ ss) p low =
    run_below f (with_own has place (f has s)) (place + 1) ss p (omega arith) ∙ other_has has place p (f has s) (λ e. omega arith)

first_step : (place : ℕ) (s : Step) (ss : List Step) → AreStepsAt place (s ∷ ss) → IsStepAt place s
first_step place s ss are = let e : place + 0 ≡ place = add-zero place in rw e at (are.each 0 s refl)

later_steps : (place : ℕ) (s : Step) (ss : List Step) → AreStepsAt place (s ∷ ss) → AreStepsAt (place + 1) ss
later_steps place s ss are = record {
  each = λ i t at. let e : (place + 1) + i ≡ place + suc i = omega arith in rw e (are.each (suc i) t at);
}

first_follows : {V : Type 0} (f : (ℕ → V) → Step → V) (has : ℕ → V) (place : ℕ) (s : Step) (ss : List Step) → FollowsAt f has place (s ∷ ss) → has place ≡ f has s
first_follows f has place s ss follows = sym (ap has (add-zero place)) ∙ follows.each 0 s refl

later_follow : {V : Type 0} (f : (ℕ → V) → Step → V) (has : ℕ → V) (place : ℕ) (s : Step) (ss : List Step) → FollowsAt f has place (s ∷ ss) → FollowsAt f has (place + 1) ss
later_follow f has place s ss follows = record {
  each = λ i t at. let e : (place + 1) + i ≡ place + suc i = omega arith in ap has e ∙ follows.each (suc i) t at;
}

-- A function that agrees with the run on the lower places, and follows each step, is the run.
pub determined : {V : Type 0} (f : (ℕ → V) → Step → V) → IsLocal f →
    (given has : ℕ → V) (place : ℕ) (steps : List Step) → AreStepsAt place steps → FollowsAt f has place steps →
    ((p : ℕ) → 1 ≤ p → p < place → given p ≡ has p) → (p : ℕ) → 1 ≤ p → p < place + length steps →
    run f given place steps p ≡ has p
unfolding run
determined f local given has place [] are follows same p from low = same p from (omega arith)
determined f local given has place (s ∷ ss) are follows same p from low =
    let here = first_step place s ss are in
    let now : f given s ≡ has place = local.same given has s (same s.j here.j_from here.j_below) (same s.k here.k_from here.k_below) ∙ sym (first_follows f has place s ss follows) in
    determined f local (with_own given place (f given s)) has (place + 1) ss (later_steps place s ss are) (later_follow f has place s ss follows)
    (λ q q_from q_low. ⊎_elim
    (λ (e : q ≡ place). own_has given place q (f given s) e ∙ now ∙ sym (ap has e))
    (λ (other : q ≡ place → ⊥). other_has given place q (f given s) other ∙ same q q_from (omega arith))
    (cases_eq q place))
    p from (omega arith)

-- The run follows each step.
pub run_follows : {V : Type 0} (f : (ℕ → V) → Step → V) → IsLocal f → (given : ℕ → V) (place : ℕ) (steps : List Step) → AreStepsAt place steps → FollowsAt f (run f given place steps) place steps
unfolding run
run_follows f local given place [] are = record { each = λ i s at. absurd cc }
run_follows {V} f local given place (s ∷ ss) are =
    let here = first_step place s ss are in
    let next : ℕ → V = with_own given place (f given s) in
    let after : ℕ → V = run f next (place + 1) ss in
    let later = run_follows f local next (place + 1) ss (later_steps place s ss are) in
    let kept : (q : ℕ) → q < place → given q ≡ after q = λ q low. sym (run_below f next (place + 1) ss q (omega arith) ∙ other_has given place q (f given s) (λ e. omega arith)) in
    record {
      each = λ i. elim i as (λ i. (t : Step) → slice_get (s ∷ ss) i ≡ Some t → after (place + i) ≡ f after t) [
        | zero ↦ λ t at.
            let same : s ≡ t = cc in
            ap after (add-zero place)
            ∙ run_below f next (place + 1) ss place (omega arith)
            ∙ own_has given place place (f given s) refl
            ∙ local.same given after s (kept s.j here.j_below) (kept s.k here.k_below)
            ∙ ap (λ (x : Step). f after x) same
        | suc i ↦ λ t at. let e : place + suc i ≡ (place + 1) + i = omega arith in ap after e ∙ later.each i t at
      ];
    }

-- ---- values

-- a step's value depends on its operands' values alone
pub value_is_local : IsLocal step_value
value_is_local = record { same = λ a b s ej ek. rw (ej, ek) refl }

-- values are a run
pub values_run : (bits : ℕ → Bool) (place : ℕ) (steps : List Step) → values_after bits place steps ≡ run step_value bits place steps
unfolding values_after run
values_run bits place [] = refl
values_run bits place (s ∷ ss) = values_run (extended bits place (step_value bits s)) (place + 1) ss

steps_at : (n : ℕ) (steps : List Step) → AreSteps n steps → AreStepsAt (n + 1) steps
steps_at n steps are = record { each = are.each }

-- an input's place has its bit
pub input_value : (n t p : ℕ) (steps : List Step) → p < n + 1 → values_on n t steps p ≡ input n t p
input_value n t p steps low = ap (λ (v : ℕ → Bool). v p) (values_run (input n t) (n + 1) steps) ∙ run_below step_value (input n t) (n + 1) steps p low

-- a step's place has its operator's value
pub step_is : (n t : ℕ) (steps : List Step) → AreSteps n steps → (i : ℕ) (s : Step) → slice_get steps i ≡ Some s → values_on n t steps (n + 1 + i) ≡ step_value (values_on n t steps) s
step_is n t steps are i s at = rw (values_run (input n t) (n + 1) steps) ((run_follows step_value value_is_local (input n t) (n + 1) steps (steps_at n steps are)).each i s at)

-- Bits that agree with the inputs on row t, and follow each step, are the values on row t.
pub values_are : (n t : ℕ) (bits : ℕ → Bool) (steps : List Step) → AreSteps n steps →
    ((p : ℕ) → 1 ≤ p → p ≤ n → bits p ≡ input n t p) →
    ((i : ℕ) (s : Step) → slice_get steps i ≡ Some s → bits (n + 1 + i) ≡ step_value bits s) → (p : ℕ) → 1 ≤ p →
    p < n + 1 + length steps → values_on n t steps p ≡ bits p
values_are n t bits steps are inputs follow p from low =
    ap (λ (v : ℕ → Bool). v p) (values_run (input n t) (n + 1) steps)
    ∙ determined step_value value_is_local (input n t) bits (n + 1) steps (steps_at n steps are) (record { each = follow }) (λ q q_from q_low. sym (inputs q q_from (omega arith))) p from low

-- ---- tabulated lists

-- the list of f 0, f 1, and so on, of a given length
unfoldable pub rebuilt : {X : Type 0} → (ℕ → X) → ℕ → List X
rebuilt f r = map f (range_with_len 0 r)

pub rebuilt_length : {X : Type 0} (f : ℕ → X) (r : ℕ) → length (rebuilt f r) ≡ r
unfolding rebuilt
rebuilt_length f r = length-map-range_with_len f 0 r

pub rebuilt_get : {X : Type 0} (f : ℕ → X) (r k : ℕ) → k < r → slice_get (rebuilt f r) k ≡ Some (f k)
unfolding rebuilt
rebuilt_get f r k low =
    slice_get-get_or (map f (range_with_len 0 r)) k (f k) (omega (arith, length-map-range_with_len f 0 r))
    ∙ ap Some (get_or-map-range_with_len f 0 r k k (f k) low (omega arith))

pub rebuilt_at : {X : Type 0} (f : ℕ → X) (r k : ℕ) (x : X) → slice_get (rebuilt f r) k ≡ Some x → (k < r) × (x ≡ f k)
rebuilt_at f r k x at =
    let low : k < r = omega (arith, slice_get_within (rebuilt f r) k x at, rebuilt_length f r) in
    let here = rebuilt_get f r k low in
    (low, cc)

-- ---- steps by their index

-- the step at an index; a default after the last step
unfoldable pub step_at : List Step → ℕ → Step
step_at steps i = slice_index_or steps i (record { j = 0; k = 0; op = 0 })

pub step_at_get : (steps : List Step) (i : ℕ) → i < length steps → slice_get steps i ≡ Some (step_at steps i)
unfolding step_at
step_at_get steps i low = slice_get-get_or steps i (record { j = 0; k = 0; op = 0 }) low

pub step_at_is : (steps : List Step) (i : ℕ) (a : Step) → slice_get steps i ≡ Some a → step_at steps i ≡ a
step_at_is steps i a at = let there = step_at_get steps i (slice_get_within steps i a at) in cc

pub step_at_all : (P : Step → Type 0) (steps : List Step) → All P steps → (i : ℕ) → i < length steps → P (step_at steps i)
unfolding step_at
step_at_all P steps all i low = All-get_or P steps i (record { j = 0; k = 0; op = 0 }) low all

-- a place is an input's or a step's
pub place_cases : (n r p : ℕ) → p < n + 1 + r → (p ≤ n) ⊎ ((i : ℕ) × (i < r) × (p ≡ n + 1 + i))
place_cases n r p low = ⊎_elim (λ (below : p < n + 1). inl (omega arith)) (λ (above : n + 1 ≤ p). inr (p - (n + 1), omega arith, omega arith)) (cases_lt p (n + 1))

-- a property of each f k holds of each element
pub rebuilt_all : {X : Type 0} (P : X → Type 0) (f : ℕ → X) (r : ℕ) → ((k : ℕ) → k < r → P (f k)) → All P (rebuilt f r)
rebuilt_all P f r each = λ k d low.
    let inside : k < r = omega (arith, rebuilt_length f r) in
    let here = rebuilt_at f r k (get_or (rebuilt f r) k d) (slice_get-get_or (rebuilt f r) k d low) in
    subst P (sym here.1) (each k inside)

-- ---- one step more

pub push_keeps : {X : Type 0} (xs ys : List X) (i : ℕ) (x : X) → slice_get xs i ≡ Some x → slice_get (xs ++ ys) i ≡ Some x
push_keeps [] ys i x at = absurd cc
push_keeps (y ∷ xs) ys zero x at = at
push_keeps (y ∷ xs) ys (suc i) x at = push_keeps xs ys i x at

pub push_last : {X : Type 0} (xs : List X) (x : X) → slice_get (xs ++ x ∷ []) (length xs) ≡ Some x
push_last [] x = refl
push_last (y ∷ xs) x = push_last xs x

pub push_cases : {X : Type 0} (xs : List X) (x y : X) (i : ℕ) → slice_get (xs ++ x ∷ []) i ≡ Some y → (slice_get xs i ≡ Some y) ⊎ ((i ≡ length xs) × (y ≡ x))
push_cases [] x y zero at = inr (refl, cc)
push_cases [] x y (suc i) at = absurd cc
push_cases (z ∷ xs) x y zero at = inl at
push_cases (z ∷ xs) x y (suc i) at = ⊎_elim
    (λ (inside : slice_get xs i ≡ Some y). inl inside)
    (λ (last : (i ≡ length xs) × (y ≡ x)). inr (ap suc last.0, last.1))
    (push_cases xs x y i at)

pub push_are_steps : (n : ℕ) (steps : List Step) (u : Step) → AreSteps n steps → IsStepAt (n + 1 + length steps) u → AreSteps n (steps ++ u ∷ [])
push_are_steps n steps u are here = record {
  each = λ i a at. ⊎_elim
      (λ (inside : slice_get steps i ≡ Some a). are.each i a inside)
      (λ (last : (i ≡ length steps) × (a ≡ u)). subst (λ (k : ℕ). IsStepAt (n + 1 + k) a) (sym last.0) (subst (λ (x : Step). IsStepAt (n + 1 + length steps) x) (sym last.1) here))
      (push_cases steps u a i at);
}

-- lower places keep their values
pub push_values : (n t : ℕ) (steps : List Step) (u : Step) → AreSteps n steps → IsStepAt (n + 1 + length steps) u →
    (p : ℕ) → 1 ≤ p → p < n + 1 + length steps → values_on n t steps p ≡ values_on n t (steps ++ u ∷ []) p
push_values n t steps u are here =
    values_are n t (values_on n t (steps ++ u ∷ [])) steps are
    (λ p from low. input_value n t p (steps ++ u ∷ []) (omega arith))
    (λ i a at. step_is n t (steps ++ u ∷ []) (push_are_steps n steps u are here) i a (push_keeps steps (u ∷ []) i a at))
