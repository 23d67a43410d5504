-- The layout of a fence, its chains and its formula.
use Rattle.std.proofs.Common.{◌≡◌, ℕ, Bool, List, ◌++◌, ap}
use Rattle.std.proofs.lemmas.Grind.{common_steps}
use Rattle.chain_core.specs.Steps.{IsSmallChain}
use Rattle.op_basis.specs.Basis.{members}
use Rattle.op_basis.specs.Closed.{swap_closed}
use Rattle.sat_theory.specs.Formula.{Assignment}
use Rattle.tt_core.specs.Live.{live_words}
use Rattle.tt_core.specs.Words.{Words}
use Rattle.enc_theory.specs.declared.data.Dimensions.{Dimensions}
use Rattle.enc_theory.specs.Families.{common}
use Rattle.enc_theory.specs.Decode.{decoded}
use Rattle.enc_theory.specs.Fence.{fence_layout, fence_formula, fence_live, fence_decoded}
use Rattle.enc_theory.specs.Cuts.{cuts}
use Rattle.enc_theory.specs.Numbering.{sizes_of}
use Rattle.enc_theory.specs.Pairs.{StepSlots, layout, vars_of}
use Rattle.enc_cuts.specs.Formula.{with_cuts, live_with_cuts}
use Rattle.enc_fence.specs.StepPairs.{step_pairs, layout-same}

-- with the pairs of all places, including inputs, the layout is the fence's
pub fence_laid : (basis : ℕ) (fence levels : List ℕ) (z : Dimensions) (n : ℕ) (ordered : Bool) → n ≡ z.n →
    ordered ≡ swap_closed (members basis) → levels ≡ fence →
    layout (step_pairs ordered n levels) z ≡ fence_layout basis fence z
fence_laid basis fence levels z n ordered inputs is same = rw (inputs, is, same) (layout-same (swap_closed (members basis)) fence z)

-- so the chain that an assignment spells over that layout is the fence's
pub small_in : (w : Words) (basis r : ℕ) (fence : List ℕ) (v : Assignment) (z : Dimensions) (steps : List StepSlots) →
    z ≡ sizes_of (live_words w) r → steps ≡ fence_layout basis fence z →
    IsSmallChain (fence_decoded w basis r fence v) → IsSmallChain (decoded w z steps v)
unfolding fence_decoded
small_in w basis r fence v z steps sizes is small = rw (is, sizes) small

pub ruleset same = (common_steps, fence_laid)

-- and the formula of these pairs is the fence's
pub fence_is : (w : Words) (basis r : ℕ) (fence levels : List ℕ) (n : ℕ) (ordered : Bool) → n ≡ w.n →
    ordered ≡ swap_closed (members basis) → levels ≡ fence → with_cuts (step_pairs ordered n levels) w basis r ≡
    fence_formula w basis r fence
unfolding with_cuts live_with_cuts fence_formula fence_live
fence_is w basis r fence levels n ordered inputs is same =
    let live = live_words w in
    let z = sizes_of live r in
    ap (λ (steps : List StepSlots). record { vars = vars_of z steps; clauses = common live basis z steps ++ cuts live basis z steps }) (fence_laid basis fence levels z n ordered inputs is same)

pub ruleset formulas = (common_steps, fence_is)
