-- The laws of the encoding by fences.
use Rattle.std.proofs.Common.{◌≡◌, ℕ, ◌+◌, ◌-◌, ◌<◌, ◌≤◌, Bool, List, [], ◌∷◌, length, Contains, sym, ap, ◌∙◌, subst, arith, ⊎_elim}
use Rattle.std.specs.Prelude.{sum, max, nat_lt, if◌then◌else◌}
use Rattle.std.specs.List.{range_with_len}
use Rattle.std.proofs.lemmas.Bool.{cases_lt, lt-ltb, le-ltb, cond-true, cond-false}
use Rattle.chain_theory.specs.Chain.{Step, Chain}
use Rattle.chain_theory.specs.Agreement.{HasChain, IsMinimum}
use Rattle.op_basis.specs.Basis.{members}
use Rattle.op_basis.specs.Closed.{swap_closed}
use Rattle.chain_laws.specs.Follow.{place_cases}
use Rattle.chain_theory.specs.Levels.{level, HasLevels}
use Rattle.chain_theory.specs.LevelLaws.{input_level}
use Rattle.chain_laws.specs.LevelOrder.{level_of_larger}
use Rattle.chain_theory.specs.Levels.{HasChainOfLevels}
use Rattle.chain_laws.specs.NormalForm.{IsNormalForm}
use Rattle.chain_laws.specs.Least.{levels_at_most_steps}
use Rattle.fence_core.specs.Fence.{IsFenceOf}
use Rattle.fence_core.specs.Listing.{sum-cons}
use Rattle.chain_laws.specs.Fences.{level_by, IsInFence, HasFencedChain, least_in_fence}
use Rattle.sat_theory.specs.Formula.{IsFormula, Assignment, Satisfies}
use Rattle.tt_core.specs.Words.{Words, specification}
use Rattle.tt_core.specs.Live.{live_words}
use Rattle.clause_core.specs.Clauses.{IsSatisfiable}
use Rattle.enc_theory.specs.Pairs.{pair, pairs_with}
use Rattle.enc_theory.specs.Fence.{places_under, fence_pairs, fence_live, fence_formula, fence_decoded}
use Rattle.clause_core.specs.Holds.{flat_map_get, flat_map_make, range_contains, range_inside}
use Rattle.enc_laws.specs.Layouts.{AreBelow, pairs_with_below, pair_with_larger}
use Rattle.enc_laws.specs.Live.{picked}
use Rattle.enc_laws.specs.Decoded.{IsFor, for_is_there}
use Rattle.enc_laws.specs.Complete.{step_at, step_below, step_there}
use Rattle.enc_laws.specs.Laws.{IsAllowed, picked_is_for}
use Rattle.enc_laws.specs.ByPairs.{whole_has, by_pairs_decodes, normal_form_satisfies, by_pairs_is_formula}

-- ---- the places of the level below

-- they are lower places
pub under_low : (first count : ℕ) (fence : List ℕ) (k p : ℕ) → Contains (places_under first count fence k) p → (first ≤ p) × (p < first + count + k)
unfolding places_under
under_low first count [] k p c = absurd (omega (arith, c.1))
under_low first count (q ∷ qs) k p c = ⊎_elim
    (λ (here : k < q).
    let is : places_under first count (q ∷ qs) k ≡ range_with_len first count = cond-true (nat_lt k q) (range_with_len first count) (places_under (first + count) q qs (k - q)) (lt-ltb k q here) in
    let (from, to) = range_inside first count p (subst (λ (x : List ℕ). Contains x p) is c) in
    (from, omega arith))
    (λ (past : q ≤ k).
    let is : places_under first count (q ∷ qs) k ≡ places_under (first + count) q qs (k - q) =
    cond-false (nat_lt k q) (range_with_len first count) (places_under (first + count) q qs (k - q))
    (le-ltb k q past) in
    let (from, to) = under_low (first + count) q qs (k - q) p (subst (λ (x : List ℕ). Contains x p) is c) in
    (omega arith, omega arith))
    (cases_lt k q)

pub fence_pairs_are_below : (ordered : Bool) (n : ℕ) (fence : List ℕ) → AreBelow n (fence_pairs ordered n fence)
unfolding fence_pairs
fence_pairs_are_below ordered n fence = record {
  each = λ place p from_n c.
      let from = flat_map_get (pairs_with ordered) (places_under 1 n fence (place - (n + 1))) p c in
      let (low, high) = under_low 1 n fence (place - (n + 1)) from.source from.inside in
      let is = pairs_with_below ordered from.source p low from.gives in
      let j = is.j_below in
      let k = is.k_below in
      record { j_from = is.j_from; j_below = omega arith; k_from = is.k_from; k_below = omega arith };
}

-- the level of a place, if the level below the fence's first has `count` places from `first` on
abbrev pub level_from : ℕ → ℕ → List ℕ → ℕ → ℕ
level_from first count fence p = if nat_lt p (first + count) then 0 else level_by fence (p - (first + count))

pub level_from_low : (first count : ℕ) (fence : List ℕ) (p : ℕ) → p < first + count → level_from first count fence p ≡ 0
level_from_low first count fence p low = cond-true (nat_lt p (first + count)) 0 (level_by fence (p - (first + count))) (lt-ltb p (first + count) low)

pub level_from_high : (first count : ℕ) (fence : List ℕ) (p : ℕ) → first + count ≤ p → level_from first count fence p ≡ level_by fence (p - (first + count))
level_from_high first count fence p high = cond-false (nat_lt p (first + count)) 0 (level_by fence (p - (first + count))) (le-ltb p (first + count) high)

pub level_here : (q : ℕ) (qs : List ℕ) (k : ℕ) → k < q → level_by (q ∷ qs) k ≡ 1
unfolding level_by
level_here q qs k low = cond-true (nat_lt k q) 1 (1 + level_by qs (k - q)) (lt-ltb k q low)

pub level_past : (q : ℕ) (qs : List ℕ) (k : ℕ) → q ≤ k → level_by (q ∷ qs) k ≡ 1 + level_by qs (k - q)
unfolding level_by
level_past q qs k past = cond-false (nat_lt k q) 1 (1 + level_by qs (k - q)) (le-ltb k q past)

level_positive : (fence : List ℕ) (k : ℕ) → k < sum fence → 1 ≤ level_by fence k
level_positive [] k low = absurd (omega arith)
level_positive (q ∷ qs) k low = ⊎_elim
    (λ (here : k < q). omega (arith, level_here q qs k here))
    (λ (past : q ≤ k). omega (arith, level_past q qs k past))
    (cases_lt k q)

-- A place whose level is one below that of a step is among them.
under_has : (first count : ℕ) (fence : List ℕ) (k p : ℕ) → k < sum fence → first ≤ p → p < first + count + k →
    level_from first count fence p + 1 ≡ level_by fence k → Contains (places_under first count fence k) p
unfolding places_under
under_has first count [] k p low from to e = absurd (omega arith)
under_has first count (q ∷ qs) k p low from to e =
    let total = sum-cons q qs in
    ⊎_elim
    (λ (here : k < q).
    let is : places_under first count (q ∷ qs) k ≡ range_with_len first count = cond-true (nat_lt k q) (range_with_len first count) (places_under (first + count) q qs (k - q)) (lt-ltb k q here) in
    let own = level_here q qs k here in
    subst (λ (x : List ℕ). Contains x p) (sym is) (⊎_elim
    (λ (inside : p < first + count). range_contains first count p from inside)
    (λ (above : first + count ≤ p). absurd (let there = level_from_high first count (q ∷ qs) p above in
    omega (arith, level_positive (q ∷ qs) (p - (first + count)) (omega arith))))
    (cases_lt p (first + count))))
    (λ (past : q ≤ k).
    let is : places_under first count (q ∷ qs) k ≡ places_under (first + count) q qs (k - q) =
    cond-false (nat_lt k q) (range_with_len first count) (places_under (first + count) q qs (k - q))
    (le-ltb k q past) in
    let own = level_past q qs k past in
    let positive = level_positive qs (k - q) (omega arith) in
    subst (λ (x : List ℕ). Contains x p) (sym is) (⊎_elim
    (λ (inside : p < first + count). absurd (omega (arith, level_from_low first count (q ∷ qs) p inside)))
    (λ (above : first + count ≤ p).
    let there = level_from_high first count (q ∷ qs) p above in
    let offset : p - (first + count) - q ≡ p - (first + count + q) = omega arith in
    under_has (first + count) q qs (k - q) p (omega arith) above (omega arith) (⊎_elim
    (λ (in_level : p < first + count + q). omega (arith, level_here q qs (p - (first + count)) (omega arith), level_from_low (first + count) q qs p in_level))
    (λ (over_level : first + count + q ≤ p). omega (arith, level_past q qs (p - (first + count)) (omega arith), ap (level_by qs) offset, level_from_high (first + count) q qs p over_level))
    (cases_lt p (first + count + q))))
    (cases_lt p (first + count))))
    (cases_lt k q)

-- ---- a chain in its fence

-- the level of a place of a chain ordered by level, by its fence
level_is : (c : Chain) (fence : List ℕ) → IsInFence c fence → (p : ℕ) → 1 ≤ p → p < c.n + 1 + length c.steps → level c p ≡ level_from 1 c.n fence p
level_is c fence stands p from low = ⊎_elim
    (λ (is_input : p ≤ c.n). input_level c.n p c.steps is_input ∙ sym (level_from_low 1 c.n fence p (omega arith)))
    (λ (is_step : (i : ℕ) × (i < length c.steps) × (p ≡ c.n + 1 + i)).
    let here : p ≡ c.n + 1 + is_step.0 = is_step.2 in
    let offset : is_step.0 ≡ p - (1 + c.n) = omega arith in
    ap (level c) here ∙ stands.levels is_step.0 is_step.1 ∙ ap (level_by fence) offset ∙ sym (level_from_high 1 c.n fence p (omega arith)))
    (place_cases c.n (length c.steps) p low)

-- The pairs of a chain in normal form, in its fence, are those of the encoding.
pub stands_allowed : (w : Words) (basis r : ℕ) (c : Chain) (fence : List ℕ) → IsFor w basis r c →
    IsNormalForm (members basis) (specification w) c → IsInFence c fence →
    IsAllowed (fence_pairs (swap_closed (members basis)) w.n fence) w r c
unfolding fence_pairs
stands_allowed w basis r c fence is normal_form stands = record {
  each = λ i place.
      let a : Step = step_at c i in
      let below = step_below w basis r c is i place in
      let at = step_there w basis r c is i place in
      let inputs = is.agrees.inputs in
      let size = is.size in
      let from = place.from in
      let to = place.to in
      let j = below.j_below in
      let k = below.k_below in
      let j_from = below.j_from in
      let whole = stands.whole in
      let index : c.n + 1 + (i - (c.n + 1)) ≡ i = omega arith in
      let own : level c i ≡ 1 + level c (max a.j a.k) = ap (level c) (sym index) ∙ level_of_larger c is.is_chain normal_form.in_order (i - (c.n + 1)) a at in
      let mine : level c i ≡ level_by fence (i - (w.n + 1)) = level_is c fence stands i (omega arith) (omega arith)
      ∙ level_from_high 1 c.n fence i (omega arith)
      ∙ ap (level_by fence) (let e : i - (1 + c.n) ≡ i - (w.n + 1) = omega arith in e) in
      let theirs : level c (max a.j a.k) ≡ level_from 1 w.n fence (max a.j a.k) =
      level_is c fence stands (max a.j a.k) (omega arith) (omega arith)
      ∙ ap (λ (n : ℕ). level_from 1 n fence (max a.j a.k)) inputs in
      flat_map_make (pairs_with (swap_closed (members basis))) (places_under 1 w.n fence (i - (w.n + 1))) (max a.j a.k) (pair a.j a.k)
      (under_has 1 w.n fence (i - (w.n + 1)) (max a.j a.k) (omega arith) (omega arith) (omega arith) (omega arith))
      (pair_with_larger (swap_closed (members basis)) a.j a.k below.j_from below.k_from (λ closed. normal_form.operands_rise closed (i - (c.n + 1)) a at));
}

-- ---- the laws

-- A satisfying assignment spells a chain of r steps over the basis that implements the tables.
pub fence_decodes : (w : Words) (basis r : ℕ) (fence : List ℕ) (v : Assignment) → Satisfies v (fence_formula w basis r fence) → IsFor w basis r (fence_decoded w basis r fence v)
unfolding fence_formula fence_live fence_decoded
fence_decodes w basis r fence v satisfies = by_pairs_decodes (fence_pairs (swap_closed (members basis)) w.n fence) w basis r (fence_pairs_are_below (swap_closed (members basis)) w.n fence) v satisfies

-- If the formula of some fence is satisfiable, a chain of r steps over the basis implements the tables.
pub fence_sound : (w : Words) (basis r : ℕ) (fence : List ℕ) → IsSatisfiable (fence_formula w basis r fence) → HasChain (specification w) (members basis) r
fence_sound w basis r fence (v, satisfies) = for_is_there w basis r (fence_decoded w basis r fence v) (fence_decodes w basis r fence v satisfies)

-- A listed fence of r steps for the live outputs, with a satisfiable formula.
pub record HasFence (w : Words) (basis r d : ℕ) : Type 0 where
  pub fence : List ℕ
  pub listed : IsFenceOf r (length (live_words w).on) fence
  pub low : length fence ≤ d
  pub satisfiable : IsSatisfiable (fence_formula w basis r fence)

-- If a chain of r steps and at most d levels over the basis implements the tables and none of fewer steps does,
-- a listed fence of at most d levels has a satisfiable formula.
pub fence_complete_at : (w : Words) (basis r d : ℕ) → HasChainOfLevels (specification w) (members basis) r d →
    ((q : ℕ) → q < r → HasChain (specification w) (members basis) q → ⊥) → HasFence w basis r d
unfolding fence_formula fence_live
fence_complete_at w basis r d has none_fewer =
    let whole : IsFor w basis r has.chain = record { is_chain = has.is_chain; size = has.size; is_over = has.is_over; agrees = has.agrees } in
    let of_live : IsFor (live_words w) basis r (picked w has.chain) = picked_is_for w basis r has.chain whole in
    let least : HasFencedChain (specification (live_words w)) (members basis) r d = least_in_fence (specification (live_words w)) (members basis) r d
    (record { chain = picked w has.chain; is_chain = of_live.is_chain; size = of_live.size; is_over = of_live.is_over; agrees = of_live.agrees; levels = has.levels })
    (λ q less has_q. none_fewer q less (whole_has w basis q has_q)) in
    let is : IsFor (live_words w) basis r least.normal_form.has.chain =
    record {
      is_chain = least.normal_form.has.is_chain;
      size = least.normal_form.has.size;
      is_over = least.normal_form.has.is_over;
      agrees = least.normal_form.has.agrees;
    } in
    record {
      fence = least.fence;
      listed = record { filled = least.stands.filled; whole = least.stands.whole ∙ least.normal_form.has.size; listed = least.listed };
      low = least.low;
      satisfiable = normal_form_satisfies (fence_pairs (swap_closed (members basis)) w.n least.fence) w basis r
          (fence_pairs_are_below (swap_closed (members basis)) w.n least.fence) least.normal_form.has.chain is
          least.normal_form.normal_form
          (stands_allowed (live_words w) basis r least.normal_form.has.chain least.fence is least.normal_form.normal_form least.stands);
    }

-- If a chain of r steps over the basis implements the tables and none of fewer steps does, a listed fence has a
-- satisfiable formula.
pub fence_complete : (w : Words) (basis r : ℕ) → IsMinimum (specification w) (members basis) r → HasFence w basis r r
fence_complete w basis r minimum =
    let has = minimum.reached in
    fence_complete_at w basis r r (record {
      chain = has.chain;
      is_chain = has.is_chain;
      size = has.size;
      is_over = has.is_over;
      agrees = has.agrees;
      levels = subst (λ (d : ℕ). HasLevels d has.chain) has.size (levels_at_most_steps has.chain has.is_chain);
    }) minimum.none_fewer

-- The formula is well-formed.
pub fence_is_formula : (w : Words) (basis r : ℕ) (fence : List ℕ) → IsFormula (fence_formula w basis r fence)
unfolding fence_formula fence_live
fence_is_formula w basis r fence = by_pairs_is_formula (fence_pairs (swap_closed (members basis)) w.n fence) w basis r (fence_pairs_are_below (swap_closed (members basis)) w.n fence)
