-- A solution of a fence's formula spells a chain of at most the fence's levels: the fence gives each place a
-- level, the operands of a step's pairs have lower levels, and so no step's level is above that.
use Rattle.std.proofs.Common.{◌≡◌, ℕ, ◌+◌, ◌-◌, ◌<◌, ◌≤◌, Bool, List, [], ◌∷◌, length, map, Contains, ap, ◌∙◌, subst, arith, ⊎_elim}
use Rattle.std.specs.Prelude.{nat_lt}
use Rattle.std.specs.List.{range_with_len}
use Rattle.std.proofs.lemmas.Bool.{cases_lt, lt-ltb, le-ltb, cond-true, cond-false}
use Rattle.chain_theory.specs.Chain.{Step}
use Rattle.chain_theory.specs.Levels.{HasLevels, HasChainOfLevels}
use Rattle.op_basis.specs.Basis.{members}
use Rattle.op_basis.specs.Closed.{swap_closed}
use Rattle.chain_laws.specs.Levels.{level_at_most}
use Rattle.chain_laws.specs.Fences.{level_by}
use Rattle.sat_theory.specs.Formula.{Assignment, Satisfies}
use Rattle.tt_core.specs.Words.{Words, specification}
use Rattle.tt_core.specs.Live.{live_words}
use Rattle.clause_core.specs.Clauses.{IsSatisfiable}
use Rattle.clause_core.specs.Holds.{flat_map_get, range_inside}
use Rattle.enc_theory.specs.declared.data.Pair.{Pair}
use Rattle.enc_theory.specs.declared.data.Dimensions.{Dimensions}
use Rattle.enc_theory.specs.Numbering.{sizes_of}
use Rattle.enc_theory.specs.Pairs.{pair, pairs_with, layout}
use Rattle.enc_theory.specs.Decode.{decoded_step, decoded}
use Rattle.enc_theory.specs.Fence.{places_under, fence_pairs, fence_live, fence_formula, fence_decoded}
use Rattle.enc_laws.specs.Layouts.{pairs_with_below}
use Rattle.enc_laws.specs.Decoded.{IsFor}
use Rattle.enc_laws.specs.ByPairs.{by_pairs_has_pair}
use Rattle.enc_laws.specs.Fence.{under_low, level_from, level_from_low, level_from_high, level_here, level_past, fence_pairs_are_below, fence_decodes}

-- ---- the levels that a fence gives

by_low : (fence : List ℕ) (k : ℕ) → level_by fence k ≤ length fence
unfolding level_by
by_low [] k = omega arith
by_low (q ∷ qs) k = ⊎_elim
    (λ (here : k < q). omega (arith, level_here q qs k here))
    (λ (past : q ≤ k). omega (arith, level_past q qs k past, by_low qs (k - q)))
    (cases_lt k q)

by_rises : (fence : List ℕ) (i k : ℕ) → i ≤ k → level_by fence i ≤ level_by fence k
unfolding level_by
by_rises [] i k below = omega arith
by_rises (q ∷ qs) i k below = ⊎_elim
    (λ (here : k < q). omega (arith, level_here q qs i (omega arith), level_here q qs k here))
    (λ (past : q ≤ k). ⊎_elim
    (λ (low : i < q). omega (arith, level_here q qs i low, level_past q qs k past))
    (λ (both : q ≤ i). omega (arith, level_past q qs i both, level_past q qs k past, by_rises qs (i - q) (k - q) (omega arith)))
    (cases_lt i q))
    (cases_lt k q)

from_low : (n : ℕ) (fence : List ℕ) (p : ℕ) → level_from 1 n fence p ≤ length fence
from_low n fence p = ⊎_elim
    (λ (is_input : p < 1 + n). omega (arith, level_from_low 1 n fence p is_input))
    (λ (is_step : 1 + n ≤ p). omega (arith, level_from_high 1 n fence p is_step, by_low fence (p - (1 + n))))
    (cases_lt p (1 + n))

from_rises : (n : ℕ) (fence : List ℕ) (p q : ℕ) → p ≤ q → level_from 1 n fence p ≤ level_from 1 n fence q
from_rises n fence p q below = ⊎_elim
    (λ (is_input : p < 1 + n). omega (arith, level_from_low 1 n fence p is_input))
    (λ (is_step : 1 + n ≤ p). omega (arith, level_from_high 1 n fence p is_step, level_from_high 1 n fence q (omega arith), by_rises fence (p - (1 + n)) (q - (1 + n)) (omega arith)))
    (cases_lt p (1 + n))

-- ---- the places below a step, and its pairs

-- their level is one below the step's
under_level : (first count : ℕ) (fence : List ℕ) (k p : ℕ) → Contains (places_under first count fence k) p → level_from first count fence p + 1 ≡ level_by fence k
unfolding places_under
under_level first count [] k p c = absurd (omega (arith, c.1))
under_level first count (q ∷ qs) k p c = ⊎_elim
    (λ (here : k < q).
    let is : places_under first count (q ∷ qs) k ≡ range_with_len first count = cond-true (nat_lt k q) (range_with_len first count) (places_under (first + count) q qs (k - q)) (lt-ltb k q here) in
    let (from, to) = range_inside first count p (subst (λ (x : List ℕ). Contains x p) is c) in
    omega (arith, level_from_low first count (q ∷ qs) p to, level_here q qs k here))
    (λ (past : q ≤ k).
    let is : places_under first count (q ∷ qs) k ≡ places_under (first + count) q qs (k - q) =
    cond-false (nat_lt k q) (range_with_len first count) (places_under (first + count) q qs (k - q))
    (le-ltb k q past) in
    let later : Contains (places_under (first + count) q qs (k - q)) p = subst (λ (x : List ℕ). Contains x p) is c in
    let (from, to) = under_low (first + count) q qs (k - q) p later in
    let rest = under_level (first + count) q qs (k - q) p later in
    let own = level_past q qs k past in
    let mine = level_from_high first count (q ∷ qs) p from in
    let offset : p - (first + count) - q ≡ p - (first + count + q) = omega arith in
    ⊎_elim
    (λ (in_level : p < first + count + q). omega (arith, mine, level_here q qs (p - (first + count)) (omega arith), level_from_low (first + count) q qs p in_level, rest, own))
    (λ (over_level : first + count + q ≤ p). omega (
      arith,
      mine,
      level_past q qs (p - (first + count)) (omega arith),
      ap (level_by qs) offset,
      level_from_high (first + count) q qs p over_level,
      rest,
      own,
    ))
    (cases_lt p (first + count + q)))
    (cases_lt k q)

-- both operands of a pair have lower levels
pair_rises : (ordered : Bool) (n : ℕ) (fence : List ℕ) (i : ℕ) (p : Pair) → n + 1 ≤ i →
    Contains (fence_pairs ordered n fence i) p → (level_from 1 n fence p.j < level_from 1 n fence i) ×
    (level_from 1 n fence p.k < level_from 1 n fence i)
unfolding fence_pairs
pair_rises ordered n fence i p high c =
    let from = flat_map_get (pairs_with ordered) (places_under 1 n fence (i - (n + 1))) p c in
    let low = (under_low 1 n fence (i - (n + 1)) from.source from.inside).0 in
    let is = pairs_with_below ordered from.source p low from.gives in
    let under = under_level 1 n fence (i - (n + 1)) from.source from.inside in
    let own : level_from 1 n fence i ≡ level_by fence (i - (n + 1)) = level_from_high 1 n fence i (omega arith) ∙ ap (level_by fence) (let e : i - (1 + n) ≡ i - (n + 1) = omega arith in e) in
    let j_low = from_rises n fence p.j from.source (omega (arith, is.j_below)) in
    let k_low = from_rises n fence p.k from.source (omega (arith, is.k_below)) in
    (omega (arith, own, under, j_low), omega (arith, own, under, k_low))

-- ---- the chain

pub fence_has_levels : (w : Words) (basis r : ℕ) (fence : List ℕ) (v : Assignment) → Satisfies v (fence_formula w basis r fence) → HasLevels (length fence) (fence_decoded w basis r fence v)
unfolding fence_formula fence_live fence_decoded decoded
fence_has_levels w basis r fence v satisfies =
    let ordered : Bool = swap_closed (members basis) in
    let z : Dimensions = sizes_of (live_words w) r in
    let steps : List Step = map (decoded_step z v) (layout (fence_pairs ordered w.n fence) z) in
    let is : IsFor w basis r (fence_decoded w basis r fence v) = fence_decodes w basis r fence v satisfies in
    λ p from to.
    let low = level_at_most w.n steps is.is_chain.steps (level_from 1 w.n fence)
    (λ i s at. pair_rises ordered w.n fence (w.n + 1 + i) (pair s.j s.k) (omega arith)
    (by_pairs_has_pair (fence_pairs ordered w.n fence) w basis r (fence_pairs_are_below ordered w.n fence) v
    satisfies i s at))
    (p + 1) p (omega arith) from (omega arith) in
    omega (arith, low, from_low w.n fence p)

-- If the formula of a fence is satisfiable, a chain of at most its levels implements the tables.
pub fence_sound_at : (w : Words) (basis r : ℕ) (fence : List ℕ) → IsSatisfiable (fence_formula w basis r fence) → HasChainOfLevels (specification w) (members basis) r (length fence)
fence_sound_at w basis r fence (v, satisfies) =
    let is : IsFor w basis r (fence_decoded w basis r fence v) = fence_decodes w basis r fence v satisfies in
    record { chain = fence_decoded w basis r fence v; is_chain = is.is_chain; size = is.size; is_over = is.is_over; agrees = is.agrees; levels = fence_has_levels w basis r fence v satisfies }
