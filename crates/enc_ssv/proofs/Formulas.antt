-- Formulas within the program's bounds, without and with constraints.
use Rattle.std.proofs.Common.{◌≡◌, ℕ, Bool, refl, ap, ◌∙◌}
use Rattle.std.proofs.lemmas.Grind.{common_steps}
use Rattle.op_basis.specs.Basis.{members}
use Rattle.op_basis.specs.Closed.{swap_closed}
use Rattle.tt_core.specs.Words.{Words}
use Rattle.enc_theory.specs.Pairs.{pairs_below}
use Rattle.enc_theory.specs.Ssv.{ssv_formula, ssv_live}
use Rattle.enc_base.specs.Counts.{common-few}
use Rattle.enc_cuts.specs.Formula.{with_cuts, live_with_cuts}

pub ruleset plain = (common_steps, common-few)

ssv_is : (w : Words) (basis r : ℕ) → with_cuts (pairs_below (swap_closed (members basis))) w basis r ≡ ssv_formula w basis r
unfolding with_cuts live_with_cuts ssv_formula ssv_live
ssv_is w basis r = refl

-- the pairs with j <= k, if the basis is closed under exchanging operands
pub ssv_pairs : (w : Words) (basis r : ℕ) (ordered : Bool) → ordered ≡ swap_closed (members basis) → with_cuts (pairs_below ordered) w basis r ≡ ssv_formula w basis r
ssv_pairs w basis r ordered is = ap (λ (o : Bool). with_cuts (pairs_below o) w basis r) is ∙ ssv_is w basis r

pub ruleset ssv = (common_steps, ssv_pairs)
