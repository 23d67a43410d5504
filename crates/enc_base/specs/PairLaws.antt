-- Pairs are of places below the step, and their number is bounded.
use Rattle.std.specs.Prelude.{ℕ, ◌-◌, ◌*◌, ◌≤◌, ◌<◌, Bool, true, false, [], ◌∷◌, All, length}
use Rattle.std.specs.List.{range_with_len, flat_map}
use Rattle.std.proofs.Common.{arith}
use Rattle.std.proofs.lemmas.List.Elements.{All-nil, All-cons}
use Rattle.enc_theory.specs.Pairs.{pair, pairs_of, pairs_with, pairs_below}
use Rattle.clause_core.specs.CountLaws.{flat_map-each, flat_map-few}
use Rattle.enc_base.specs.Room.{IsPair}

-- ---- pairs

is_pair : (place j k : ℕ) → 1 ≤ j → j < place → 1 ≤ k → k < place → IsPair place (pair j k)
is_pair place j k j_from j_below k_from k_below = record { j_from = j_from; j_below = j_below; k_from = k_from; k_below = k_below }

of-below : (place : ℕ) (ordered : Bool) (large small : ℕ) → 1 ≤ small → small < large → large < place → All (IsPair place) (pairs_of ordered large small)
unfolding pairs_of
of-below place true large small some low high = All-cons (IsPair place) (pair small large) [] (is_pair place small large some (omega arith) (omega arith) high) (All-nil (IsPair place))
of-below place false large small some low high =
    All-cons (IsPair place) (pair small large) (pair large small ∷ []) (is_pair place small large some (omega arith) (omega arith) high)
    (All-cons (IsPair place) (pair large small) [] (is_pair place large small (omega arith) high some (omega arith)) (All-nil (IsPair place)))

-- the pairs with a given larger operand
pub with-below : (place : ℕ) (ordered : Bool) (large : ℕ) → 1 ≤ large → large < place → All (IsPair place) (pairs_with ordered large)
unfolding pairs_with
with-below place ordered large some high =
    All-cons (IsPair place) (pair large large) (flat_map (pairs_of ordered large) (range_with_len 1 (large - 1))) (is_pair place large large some high some high)
    (flat_map-each (IsPair place) (pairs_of ordered large) 1 (large - 1) (λ small low below. of-below place ordered large small low (omega arith) high))

pub pairs_below-below : (ordered : Bool) (place : ℕ) → All (IsPair place) (pairs_below ordered place)
unfolding pairs_below
pairs_below-below ordered place = flat_map-each (IsPair place) (pairs_with ordered) 1 (place - 1) (λ large low below. with-below place ordered large low (omega arith))

of-few : (ordered : Bool) (large small : ℕ) → length (pairs_of ordered large small) ≤ 2
unfolding pairs_of
of-few true large small = omega arith
of-few false large small = omega arith

pub with-few : (ordered : Bool) (large : ℕ) → large ≤ 21 → length (pairs_with ordered large) ≤ 43
unfolding pairs_with
with-few ordered large low =
    let others : length (flat_map (pairs_of ordered large) (range_with_len 1 (large - 1))) ≤ (large - 1) * 2 =
    flat_map-few (pairs_of ordered large) 2 1 (large - 1) (λ small from to. of-few ordered large small) in
    omega (arith, others)

pub pairs_below-few : (ordered : Bool) (place : ℕ) → place ≤ 22 → length (pairs_below ordered place) ≤ 1000
unfolding pairs_below
pairs_below-few ordered place low =
    let all : length (flat_map (pairs_with ordered) (range_with_len 1 (place - 1))) ≤ (place - 1) * 43 =
    flat_map-few (pairs_with ordered) 43 1 (place - 1) (λ large from to. with-few ordered large (omega arith)) in
    omega (arith, all)
