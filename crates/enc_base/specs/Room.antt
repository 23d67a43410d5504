-- Bounds of formulas, places and variables, as preconditions of the functions that write clauses.
use Rattle.std.specs.Prelude.{◌≡◌, length, ℕ, ◌+◌, ◌≤◌, ◌<◌, All}
use Rattle.enc_theory.specs.declared.data.Dimensions.{Dimensions}
use Rattle.tt_core.specs.Words.{Words}
use Rattle.enc_theory.specs.declared.data.Pair.{Pair}
use Rattle.enc_theory.specs.declared.data.Slot.{Slot}
use Rattle.enc_theory.specs.Numbering.{s_first}
use Rattle.enc_theory.specs.Pairs.{StepSlots}
use Rattle.chain_theory.specs.Limits.{most_steps, most_inputs, most_outputs}

-- the bounds of the program: at most six inputs, sixteen steps and eight outputs
pub record IsSmall (z : Dimensions) : Type 0 where
  pub inputs : z.n ≤ most_inputs
  pub steps : z.r ≤ most_steps
  pub outputs : z.m ≤ most_outputs

-- the variables 1 to vars include all those of values, outputs and operators
pub record HasRoom (z : Dimensions) (vars : ℕ) : Type 0 where
  pub small : IsSmall z
  pub first : s_first z ≤ vars + 1
  pub few : vars < 1000000000

-- the place is that of a step
pub record IsPlace (z : Dimensions) (i : ℕ) : Type 0 where
  pub from : z.n + 1 ≤ i
  pub below : i < z.n + 1 + z.r

-- both operands are places below the step's
pub record IsPair (place : ℕ) (p : Pair) : Type 0 where
  pub j_from : 1 ≤ p.j
  pub j_below : p.j < place
  pub k_from : 1 ≤ p.k
  pub k_below : p.k < place

pub record IsSlot (vars place : ℕ) (u : Slot) : Type 0 where
  pub j_from : 1 ≤ u.j
  pub j_below : u.j < place
  pub k_from : 1 ≤ u.k
  pub k_below : u.k < place
  pub var_from : 1 ≤ u.var
  pub var_within : u.var ≤ vars

-- the place is that of a step
pub record HasPlace (z : Dimensions) (s : StepSlots) : Type 0 where
  pub place : IsPlace z s.place

-- the place of a step, with given pairs
pub record HasSlots (z : Dimensions) (vars : ℕ) (s : StepSlots) : Type 0 where
  pub place : IsPlace z s.place
  pub slots : All (IsSlot vars s.place) s.slots

-- the pairs of a step have places below it, and variables of the formula
pub record HasPairs (vars : ℕ) (s : StepSlots) : Type 0 where
  pub each : All (IsSlot vars s.place) s.slots

-- the sizes are those of the tables
pub record AreFor (z : Dimensions) (w : Words) : Type 0 where
  pub inputs : z.n ≡ w.n
  pub outputs : z.m ≡ length w.on
