-- Chains that formulas spell are within the program's limits.
use Rattle.std.proofs.Common.{◌≡◌, ℕ, ◌≤◌, List, refl}
use Rattle.chain_core.specs.Steps.{IsSmallChain}
use Rattle.sat_theory.specs.Formula.{Assignment, Satisfies}
use Rattle.tt_core.specs.Words.{Words, IsSpec}
use Rattle.enc_theory.specs.Fence.{fence_formula, fence_decoded}
use Rattle.enc_theory.specs.Decode.{decoded}
use Rattle.enc_laws.specs.Fence.{fence_decodes}
use Rattle.enc_cuts.specs.ChainLaws.{small_chain}

-- what a satisfying assignment of a fence's formula spells
inputs_kept : (w : Words) (basis r : ℕ) (fence : List ℕ) (v : Assignment) → (fence_decoded w basis r fence v).n ≡ w.n
unfolding fence_decoded decoded
inputs_kept w basis r fence v = refl

pub spelled_is_small : (w : Words) (basis r : ℕ) (fence : List ℕ) (v : Assignment) → IsSpec w → r ≤ 16 → Satisfies v (fence_formula w basis r fence) → IsSmallChain (fence_decoded w basis r fence v)
spelled_is_small w basis r fence v spec low sat = small_chain w basis r (fence_decoded w basis r fence v) spec low (inputs_kept w basis r fence v) (fence_decodes w basis r fence v sat)
