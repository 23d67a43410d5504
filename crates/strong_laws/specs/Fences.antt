-- The laws of the formulas of fences, strengthened.
use Rattle.std.proofs.Common.{ℕ, ◌<◌, ◌≤◌, List, length, Contains, ◌∙◌, subst}
use Rattle.chain_theory.specs.Agreement.{HasChain, IsMinimum}
use Rattle.chain_theory.specs.Levels.{HasLevels, HasChainOfLevels}
use Rattle.op_basis.specs.Basis.{members}
use Rattle.op_basis.specs.Closed.{swap_closed}
use Rattle.fence_core.specs.Fence.{IsFenceOf, listed_fences}
use Rattle.fence_core.specs.Listing.{fences_are_listed}
use Rattle.chain_laws.specs.Least.{levels_at_most_steps}
use Rattle.chain_laws.specs.Fences.{HasFencedChain, least_in_fence}
use Rattle.sat_theory.specs.Formula.{IsFormula, Assignment, Satisfies}
use Rattle.tt_core.specs.Words.{Words, specification}
use Rattle.tt_core.specs.Live.{live_words}
use Rattle.clause_core.specs.Clauses.{IsSatisfiable}
use Rattle.clause_core.specs.Holds.{contains_map}
use Rattle.enc_theory.specs.Numbering.{sizes_of}
use Rattle.enc_theory.specs.Fence.{fence_pairs, fence_layout, fence_live, fence_formula}
use Rattle.enc_theory.specs.declared.subproblem.Subproblem.{Subproblem}
use Rattle.enc_theory.specs.declared.subproblem.Subproblem.TheVariants.{Levels}
use Rattle.enc_theory.specs.Subproblems.{subproblems_for, fence_in}
use Rattle.enc_laws.specs.Live.{picked}
use Rattle.enc_laws.specs.Decoded.{IsFor}
use Rattle.enc_laws.specs.Laws.{picked_is_for}
use Rattle.enc_laws.specs.ByPairs.{whole_has}
use Rattle.enc_laws.specs.Fence.{fence_pairs_are_below, fence_sound, stands_allowed}
use Rattle.enc_laws.specs.FenceLevels.{fence_sound_at}
use Rattle.strong_theory.specs.Strong.{strong_fence_live, strong_fence_formula}
use Rattle.strong_laws.specs.Strengthened.{strengthened_has}
use Rattle.strong_laws.specs.Whole.{normal_form_satisfies_strong, strong_by_pairs_is_formula}

-- What satisfies the formula satisfies that of the fence.
pub strong_has_fence : (w : Words) (basis r : ℕ) (fence : List ℕ) (v : Assignment) → Satisfies v (strong_fence_formula w basis r fence) → Satisfies v (fence_formula w basis r fence)
unfolding strong_fence_formula strong_fence_live fence_formula
strong_has_fence w basis r fence v satisfies = strengthened_has (live_words w) (sizes_of (live_words w) r)
    (fence_layout basis fence (sizes_of (live_words w) r)) (fence_live (live_words w) basis r fence) v satisfies

-- If the formula of some fence is satisfiable, a chain of r steps over the basis implements the tables,
pub strong_fence_sound : (w : Words) (basis r : ℕ) (fence : List ℕ) → IsSatisfiable (strong_fence_formula w basis r fence) → HasChain (specification w) (members basis) r
strong_fence_sound w basis r fence (v, satisfies) = fence_sound w basis r fence (v, strong_has_fence w basis r fence v satisfies)

-- with at most the fence's levels.
pub strong_fence_sound_at : (w : Words) (basis r : ℕ) (fence : List ℕ) → IsSatisfiable (strong_fence_formula w basis r fence) → HasChainOfLevels (specification w) (members basis) r (length fence)
strong_fence_sound_at w basis r fence (v, satisfies) = fence_sound_at w basis r fence (v, strong_has_fence w basis r fence v satisfies)

-- A listed fence of r steps for the live outputs, with a satisfiable formula.
pub record HasStrongFence (w : Words) (basis r d : ℕ) : Type 0 where
  pub fence : List ℕ
  pub listed : IsFenceOf r (length (live_words w).on) fence
  pub low : length fence ≤ d
  pub satisfiable : IsSatisfiable (strong_fence_formula w basis r fence)

-- If a chain of r steps and at most d levels over the basis implements the tables and none of fewer steps does,
-- a listed fence of at most d levels has a satisfiable formula.
pub strong_fence_complete_at : (w : Words) (basis r d : ℕ) → HasChainOfLevels (specification w) (members basis) r d →
    ((q : ℕ) → q < r → HasChain (specification w) (members basis) q → ⊥) → HasStrongFence w basis r d
unfolding strong_fence_formula strong_fence_live fence_live
strong_fence_complete_at w basis r d has none_fewer =
    let whole : IsFor w basis r has.chain = record { is_chain = has.is_chain; size = has.size; is_over = has.is_over; agrees = has.agrees } in
    let of_live : IsFor (live_words w) basis r (picked w has.chain) = picked_is_for w basis r has.chain whole in
    let least : HasFencedChain (specification (live_words w)) (members basis) r d = least_in_fence (specification (live_words w)) (members basis) r d
    (record { chain = picked w has.chain; is_chain = of_live.is_chain; size = of_live.size; is_over = of_live.is_over; agrees = of_live.agrees; levels = has.levels })
    (λ q less has_q. none_fewer q less (whole_has w basis q has_q)) in
    let is : IsFor (live_words w) basis r least.normal_form.has.chain =
    record {
      is_chain = least.normal_form.has.is_chain;
      size = least.normal_form.has.size;
      is_over = least.normal_form.has.is_over;
      agrees = least.normal_form.has.agrees;
    } in
    record {
      fence = least.fence;
      listed = record { filled = least.stands.filled; whole = least.stands.whole ∙ least.normal_form.has.size; listed = least.listed };
      low = least.low;
      satisfiable = normal_form_satisfies_strong (fence_pairs (swap_closed (members basis)) w.n least.fence) w basis r
          (fence_pairs_are_below (swap_closed (members basis)) w.n least.fence) least.normal_form.has.chain is
          least.normal_form.normal_form
          (stands_allowed (live_words w) basis r least.normal_form.has.chain least.fence is least.normal_form.normal_form least.stands);
    }

-- If a chain of r steps over the basis implements the tables and none of fewer steps does, a listed fence has a
-- satisfiable formula.
pub strong_fence_complete : (w : Words) (basis r : ℕ) → IsMinimum (specification w) (members basis) r → HasStrongFence w basis r r
strong_fence_complete w basis r minimum =
    let has = minimum.reached in
    strong_fence_complete_at w basis r r (record {
      chain = has.chain;
      is_chain = has.is_chain;
      size = has.size;
      is_over = has.is_over;
      agrees = has.agrees;
      levels = subst (λ (d : ℕ). HasLevels d has.chain) has.size (levels_at_most_steps has.chain has.is_chain);
    }) minimum.none_fewer

-- The formula is well-formed.
pub strong_fence_is_formula : (w : Words) (basis r : ℕ) (fence : List ℕ) → IsFormula (strong_fence_formula w basis r fence)
unfolding strong_fence_formula strong_fence_live fence_live
strong_fence_is_formula w basis r fence = strong_by_pairs_is_formula (fence_pairs (swap_closed (members basis)) w.n fence) w basis r (fence_pairs_are_below (swap_closed (members basis)) w.n fence)

-- ---- as the trait of encodings states them

pub strong_is_sound : (w : Words) (basis r : ℕ) (subproblem : Subproblem) → Contains (subproblems_for w r) subproblem →
    IsSatisfiable (strong_fence_formula w basis r (fence_in subproblem)) → HasChain (specification w) (members basis) r
strong_is_sound w basis r subproblem there sat = strong_fence_sound w basis r (fence_in subproblem) sat

-- if r is the minimum size, the formula of some listed fence of r steps is satisfiable
pub strong_is_complete : (w : Words) (basis r : ℕ) → IsMinimum (specification w) (members basis) r →
    (subproblem : Subproblem) × Contains (subproblems_for w r) subproblem ×
    IsSatisfiable (strong_fence_formula w basis r (fence_in subproblem))
unfolding subproblems_for fence_in
strong_is_complete w basis r least =
    let found : HasStrongFence w basis r r = strong_fence_complete w basis r least in
    let m : ℕ = length (live_words w).on in
    (Levels found.fence, contains_map Levels (listed_fences r m) found.fence ((fences_are_listed r m).all found.fence found.listed), found.satisfiable)
