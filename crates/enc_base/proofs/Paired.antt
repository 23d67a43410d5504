-- The pairs of the steps of a formula.
use Rattle.std.specs.Prelude.{ℕ, List, All}
use Rattle.std.proofs.lemmas.Grind.{common_steps}
use Rattle.enc_theory.specs.declared.data.Dimensions.{Dimensions}
use Rattle.enc_theory.specs.Pairs.{StepSlots}
use Rattle.enc_base.specs.Room.{HasSlots, HasPairs}

-- steps with slots have pairs
pub steps_have_pairs : (z : Dimensions) (vars : ℕ) (steps : List StepSlots) → All (HasSlots z vars) steps → All (HasPairs vars) steps
steps_have_pairs z vars steps have = λ k d low. record { each = (have k d low).slots }

pub ruleset families = (common_steps, steps_have_pairs)
