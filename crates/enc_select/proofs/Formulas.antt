-- A formula within the program's bounds, and the chain that an assignment spells.
use Rattle.std.proofs.Common.{◌≡◌, ℕ, ◌≤◌, arith, refl}
use Rattle.std.proofs.lemmas.Grind.{common_steps}
use Rattle.chain_core.specs.Steps.{IsSmallChain}
use Rattle.sat_theory.specs.Formula.{Assignment, Satisfies}
use Rattle.tt_core.specs.Words.{Words, IsSpec}
use Rattle.enc_theory.specs.declared.data.Dimensions.{Dimensions}
use Rattle.enc_theory.specs.Select.{select_vars, select_formula, select_decoded}
use Rattle.enc_laws.specs.Select.{select_decodes}
use Rattle.enc_base.specs.Room.{HasRoom}
use Rattle.enc_cuts.specs.ChainLaws.{small_chain}
use Rattle.enc_select.specs.Room.{HasChoices}
use Rattle.enc_select.proofs.Counts.{both-few}

-- all variables have room
pub has_all : (z : Dimensions) (vars : ℕ) → HasRoom z vars → vars ≡ select_vars z → HasChoices z vars
has_all z vars room is = record { room = room; all = omega arith }

pub ruleset limits = (common_steps, both-few, has_all)

inputs_kept : (w : Words) (r : ℕ) (v : Assignment) → (select_decoded w r v).n ≡ w.n
unfolding select_decoded
inputs_kept w r v = refl

-- what a satisfying assignment spells is within the bounds
pub select_is_small : (w : Words) (basis r : ℕ) (v : Assignment) → IsSpec w → r ≤ 16 → Satisfies v (select_formula w basis r) → IsSmallChain (select_decoded w r v)
select_is_small w basis r v spec low sat = small_chain w basis r (select_decoded w r v) spec low (inputs_kept w r v) (select_decodes w basis r v sat)
