-- The laws of the encoding by fences, as the trait of encodings states them.
use Rattle.std.specs.Prelude.{ℕ, length}
use Rattle.std.specs.List.{Contains}
use Rattle.chain_theory.specs.Agreement.{HasChain, IsMinimum}
use Rattle.op_basis.specs.Basis.{members}
use Rattle.tt_core.specs.Words.{Words, specification}
use Rattle.tt_core.specs.Live.{live_words}
use Rattle.fence_core.specs.Fence.{listed_fences}
use Rattle.clause_core.specs.Holds.{contains_map}
use Rattle.fence_core.specs.Listing.{fences_are_listed}
use Rattle.sat_theory.specs.Formula.{Assignment, Satisfies}
use Rattle.clause_core.specs.Clauses.{IsSatisfiable}
use Rattle.enc_theory.specs.Fence.{fence_formula, fence_decoded}
use Rattle.enc_laws.specs.Fence.{fence_sound, fence_complete, HasFence}
use Rattle.enc_theory.specs.declared.subproblem.Subproblem.{Subproblem}
use Rattle.enc_theory.specs.declared.subproblem.Subproblem.TheVariants.{Whole, Levels}
use Rattle.enc_theory.specs.Subproblems.{subproblems_for, fence_in, FitsSubproblem}
use Rattle.enc_laws.specs.FenceLevels.{fence_has_levels}

-- if a formula of size r is satisfiable, there is a chain of r steps
pub is_sound : (w : Words) (basis r : ℕ) (subproblem : Subproblem) → Contains (subproblems_for w r) subproblem →
    IsSatisfiable (fence_formula w basis r (fence_in subproblem)) → HasChain (specification w) (members basis) r
is_sound w basis r subproblem there sat = fence_sound w basis r (fence_in subproblem) sat

-- if r is the minimum size, the formula of some listed fence of r steps is satisfiable
pub is_complete : (w : Words) (basis r : ℕ) → IsMinimum (specification w) (members basis) r →
    (subproblem : Subproblem) × Contains (subproblems_for w r) subproblem ×
    IsSatisfiable (fence_formula w basis r (fence_in subproblem))
unfolding subproblems_for fence_in
is_complete w basis r least =
    let found : HasFence w basis r r = fence_complete w basis r least in
    let m : ℕ = length (live_words w).on in
    (Levels found.fence, contains_map Levels (listed_fences r m) found.fence ((fences_are_listed r m).all found.fence found.listed), found.satisfiable)

-- the chain that a satisfying assignment spells fits its subproblem
pub spelled_fits : (w : Words) (basis r : ℕ) (subproblem : Subproblem) (v : Assignment) →
    Satisfies v (fence_formula w basis r (fence_in subproblem)) →
    FitsSubproblem subproblem (fence_decoded w basis r (fence_in subproblem) v)
unfolding fence_in FitsSubproblem
spelled_fits w basis r Whole v satisfies = tt
spelled_fits w basis r (Levels fence) v satisfies = fence_has_levels w basis r fence v satisfies
