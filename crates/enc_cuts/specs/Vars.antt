-- Pairs whose selection variables are variables of the formula.
use Rattle.std.specs.Prelude.{ℕ, ◌≤◌, List, All}
use Rattle.enc_theory.specs.declared.data.Dimensions.{Dimensions}
use Rattle.enc_theory.specs.declared.data.Slot.{Slot}
use Rattle.enc_theory.specs.Pairs.{StepSlots}
use Rattle.enc_base.specs.Room.{HasSlots}

-- the selection variable is one of 1 to vars
pub record HasVar (vars : ℕ) (u : Slot) : Type 0 where
  pub from : 1 ≤ u.var
  pub within : u.var ≤ vars

-- those of all pairs of a step are
pub record HaveVars (vars : ℕ) (s : StepSlots) : Type 0 where
  pub each : All (HasVar vars) s.slots

-- the pairs of a step of a formula
pub step_has_vars : (z : Dimensions) (vars : ℕ) (s : StepSlots) → HasSlots z vars s → HaveVars vars s
step_has_vars z vars s has = record { each = λ k d low. let slot = has.slots k d low in record { from = slot.var_from; within = slot.var_within } }

pub steps_have_vars : (z : Dimensions) (vars : ℕ) (steps : List StepSlots) → All (HasSlots z vars) steps → All (HaveVars vars) steps
steps_have_vars z vars steps have = λ k d low. step_has_vars z vars _ (have k d low)
