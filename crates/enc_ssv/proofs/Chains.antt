-- Chains that are decoded.
use Rattle.std.proofs.Common.{Bool, false, ◌≡◌, ℕ, ◌≤◌, subst, sym, refl}
use Rattle.chain_theory.specs.Chain.{Chain}
use Rattle.chain_core.specs.Steps.{IsSmallChain}
use Rattle.sat_theory.specs.Formula.{Assignment, Satisfies}
use Rattle.tt_core.specs.Words.{Words, IsSpec}
use Rattle.enc_theory.specs.Plain.{plain_formula, plain_decoded}
use Rattle.enc_ssv.specs.Spelled.{spelled}
use Rattle.enc_theory.specs.Decode.{decoded}
use Rattle.enc_laws.specs.Decoded.{IsFor}
use Rattle.enc_cuts.specs.ChainLaws.{small_chain}
use Rattle.enc_laws.specs.Laws.{plain_decodes}
use Rattle.enc_laws.specs.Ssv.{ssv_decodes}
use Rattle.enc_theory.specs.Ssv.{ssv_formula, ssv_decoded}
use Rattle.op_basis.specs.Basis.{members}
use Rattle.op_basis.specs.Closed.{swap_closed}
use Rattle.std.proofs.lemmas.Grind.{common_steps}

plain_spelled : (w : Words) (r : ℕ) (v : Assignment) → plain_decoded w r v ≡ spelled false w r v
unfolding plain_decoded spelled
plain_spelled w r v = refl

inputs_kept : (w : Words) (r : ℕ) (v : Assignment) → (spelled false w r v).n ≡ w.n
unfolding spelled decoded
inputs_kept w r v = refl

-- what a satisfying assignment of the plain formula spells
pub plain_is_for : (w : Words) (basis r : ℕ) (v : Assignment) → IsSpec w → r ≤ 16 → Satisfies v (plain_formula w basis r) → IsFor w basis r (spelled false w r v)
plain_is_for w basis r v spec low sat = subst (λ (c : Chain). IsFor w basis r c) (plain_spelled w r v) (plain_decodes w basis r v sat)

pub plain_is_small : (w : Words) (basis r : ℕ) (v : Assignment) → IsSpec w → r ≤ 16 → Satisfies v (plain_formula w basis r) → IsSmallChain (spelled false w r v)
plain_is_small w basis r v spec low sat = small_chain w basis r (spelled false w r v) spec low (inputs_kept w r v) (plain_is_for w basis r v spec low sat)

-- what a satisfying assignment of the formula with constraints spells
ssv_spelled : (w : Words) (basis r : ℕ) (v : Assignment) → ssv_decoded w basis r v ≡ spelled (swap_closed (members basis)) w r v
unfolding ssv_decoded spelled
ssv_spelled w basis r v = refl

pub ssv_is_for : (w : Words) (basis r : ℕ) (ordered : Bool) (v : Assignment) → ordered ≡ swap_closed (members basis) → Satisfies v (ssv_formula w basis r) → IsFor w basis r (spelled ordered w r v)
ssv_is_for w basis r ordered v is sat = subst (λ (o : Bool). IsFor w basis r (spelled o w r v)) (sym is)
    (subst (λ (c : Chain). IsFor w basis r c) (ssv_spelled w basis r v) (ssv_decodes w basis r v sat))

ssv_inputs_kept : (w : Words) (r : ℕ) (ordered : Bool) (v : Assignment) → (spelled ordered w r v).n ≡ w.n
unfolding spelled decoded
ssv_inputs_kept w r ordered v = refl

pub ssv_is_small : (w : Words) (basis r : ℕ) (ordered : Bool) (v : Assignment) → IsSpec w → r ≤ 16 →
    ordered ≡ swap_closed (members basis) → Satisfies v (ssv_formula w basis r) → IsSmallChain (spelled ordered w r v)
ssv_is_small w basis r ordered v spec low is sat = small_chain w basis r (spelled ordered w r v) spec low (ssv_inputs_kept w r ordered v) (ssv_is_for w basis r ordered v is sat)

pub ruleset within = (common_steps, plain_is_small)
