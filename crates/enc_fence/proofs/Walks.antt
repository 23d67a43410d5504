-- Iterations over the levels of a fence.
use Rattle.std.proofs.Common.{◌≡◌, ℕ, ◌+◌, ◌-◌, ◌<◌, ◌≤◌, Bool, List, [], ◌∷◌, refl, sym, ap, ◌∙◌}
use Rattle.std.specs.Prelude.{nat_lt}
use Rattle.std.specs.List.{range_with_len, flat_map}
use Rattle.std.proofs.lemmas.Bool.{lt-ltb, le-ltb, cond-true, cond-false}
use Rattle.std.proofs.lemmas.Grind.{common_steps}
use Rattle.enc_theory.specs.Pairs.{pairs_with}
use Rattle.enc_theory.specs.Fence.{places_under, fence_pairs}
use Rattle.clause_core.specs.RangeLaws.{flat_map-turn_from}
use Rattle.enc_fence.specs.StepPairs.{step_pairs, those_of_step, none_of_input}

-- the step is on the first level, or above it
pub under_here : (first count q : ℕ) (qs : List ℕ) (k : ℕ) → k < q → places_under first count (q ∷ qs) k ≡ range_with_len first count
unfolding places_under
under_here first count q qs k here = cond-true (nat_lt k q) (range_with_len first count) (places_under (first + count) q qs (k - q)) (lt-ltb k q here)

pub under_later : (first count q : ℕ) (qs : List ℕ) (k : ℕ) → q ≤ k → places_under first count (q ∷ qs) k ≡ places_under (first + count) q qs (k - q)
unfolding places_under
under_later first count q qs k later = cond-false (nat_lt k q) (range_with_len first count) (places_under (first + count) q qs (k - q)) (le-ltb k q later)

pub under_none : (first count k : ℕ) → places_under first count [] k ≡ []
unfolding places_under
under_none first count k = refl

pub ruleset walk = (common_steps, under_here, under_later, under_none)

pub ruleset turns = (common_steps, flat_map-turn_from)

-- the pairs of a step are those with a larger operand on the level below
pub pairs_of_step : (ordered : Bool) (n : ℕ) (fence : List ℕ) (place first count : ℕ) → n < place →
    range_with_len first count ≡ places_under 1 n fence (place - (n + 1)) →
    flat_map (pairs_with ordered) (range_with_len first count) ≡ step_pairs ordered n fence place
unfolding fence_pairs
pairs_of_step ordered n fence place first count step e = ap (flat_map (pairs_with ordered)) e ∙ sym (those_of_step ordered n fence place step)

pub ruleset pairs = (common_steps, pairs_of_step, none_of_input)
