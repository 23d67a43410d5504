-- The formulas over the pairs of each encoding.
use Rattle.std.proofs.Common.{◌≡◌, ℕ, Bool, List, ◌++◌, refl, ap, ◌∙◌}
use Rattle.std.proofs.lemmas.Grind.{common_steps}
use Rattle.op_basis.specs.Basis.{members}
use Rattle.op_basis.specs.Closed.{swap_closed}
use Rattle.tt_core.specs.Live.{live_words}
use Rattle.tt_core.specs.Words.{Words}
use Rattle.enc_theory.specs.declared.data.Dimensions.{Dimensions}
use Rattle.enc_theory.specs.Numbering.{sizes_of}
use Rattle.enc_theory.specs.Pairs.{StepSlots, pairs_below, layout, vars_of}
use Rattle.enc_theory.specs.Families.{common}
use Rattle.enc_theory.specs.Cuts.{cuts}
use Rattle.enc_theory.specs.Ssv.{ssv_live}
use Rattle.enc_theory.specs.Fence.{fence_layout, fence_live}
use Rattle.enc_cuts.specs.Formula.{live_with_cuts}
use Rattle.enc_fence.specs.StepPairs.{step_pairs, layout-same}
use Rattle.strong_theory.specs.Strong.{strengthened}
use Rattle.npn_strong.specs.Cut.{with_exchanges, npn_live, npn_formula, npn_fence_live, npn_fence_formula}
use Rattle.npn_strong.specs.Whole.{npn_has_ssv}
use Rattle.npn_strong.specs.Fences.{npn_has_fence}
use Rattle.enc_strong.specs.Formula.{live_strong, strong_with}

strong_is : (w : Words) (basis r : ℕ) → strong_with (pairs_below (swap_closed (members basis))) w basis r ≡ npn_formula w basis r
unfolding strong_with live_strong live_with_cuts npn_formula npn_live ssv_live
strong_is w basis r = refl

-- the pairs with j <= k, if the basis is closed under exchanging operands
pub strong_pairs : (w : Words) (basis r : ℕ) (ordered : Bool) → ordered ≡ swap_closed (members basis) → strong_with (pairs_below ordered) w basis r ≡ npn_formula w basis r
strong_pairs w basis r ordered is = ap (λ (o : Bool). strong_with (pairs_below o) w basis r) is ∙ strong_is w basis r

pub ruleset whole = (common_steps, strong_pairs)

-- with the pairs of all places, including inputs, the layout is the fence's
fence_laid : (basis : ℕ) (fence levels : List ℕ) (z : Dimensions) (n : ℕ) (ordered : Bool) → n ≡ z.n →
    ordered ≡ swap_closed (members basis) → levels ≡ fence →
    layout (step_pairs ordered n levels) z ≡ fence_layout basis fence z
fence_laid basis fence levels z n ordered inputs is same = rw (inputs, is, same) (layout-same (swap_closed (members basis)) fence z)

-- so the formula of these pairs is the fence's
pub strong_fence_is : (w : Words) (basis r : ℕ) (fence levels : List ℕ) (n : ℕ) (ordered : Bool) → n ≡ w.n →
    ordered ≡ swap_closed (members basis) → levels ≡ fence → strong_with (step_pairs ordered n levels) w basis r ≡
    npn_fence_formula w basis r fence
unfolding strong_with live_strong live_with_cuts npn_fence_formula npn_fence_live fence_live
strong_fence_is w basis r fence levels n ordered inputs is same =
    let live = live_words w in
    let z = sizes_of live r in
    ap (λ (steps : List StepSlots). strengthened live z steps (with_exchanges live basis steps
    record { vars = vars_of z steps; clauses = common live basis z steps ++ cuts live basis z steps }))
    (fence_laid basis fence levels z n ordered inputs is same)

pub ruleset fences = (common_steps, strong_fence_is)

-- what satisfies a stronger formula satisfies the other
pub ruleset weaker = (common_steps, npn_has_ssv, npn_has_fence)
