-- Outs with the values of their outputs.
use Rattle.std.specs.Prelude.{◌≡◌, ℕ, ◌+◌, ◌-◌, ◌^◌, ◌≤◌, ◌<◌, true, false, List, length, slice_index_or}
use Rattle.chain_theory.specs.Chain.{Step, NamesPlace}
use Rattle.chain_theory.specs.Value.{values_on}
use Rattle.chain_theory.specs.Agreement.{is_met as is_met_by}
use Rattle.chain_theory.specs.declared.data.Out.{Out}
use Rattle.chain_theory.specs.declared.data.Out.TheVariants.{Zero}
use Rattle.chain_laws.specs.Bodies.{out_bit}
use Rattle.tt_core.specs.Words.{Words, specification, cell_of}
use Rattle.tt_core.specs.Live.{is_live}
use Rattle.step_core.specs.Steps.{misses, word_in, is_met}

-- the place is that of a step, and its word has the specified values of output i + 1
pub record IsStepFor (w : Words) (steps : List Step) (i place : ℕ) : Type 0 where
  pub from : w.n < place
  pub to : place ≤ w.n + length steps
  pub has : misses w (word_in w.n steps place) i ≡ false

-- the out has the specified values of output h
pub record IsOutFor (w : Words) (steps : List Step) (h : ℕ) (out : Out) : Type 0 where
  pub names : NamesPlace (w.n + length steps) out
  pub met : (t : ℕ) → t < 2 ^ w.n → is_met_by (cell_of w h t) (out_bit (values_on w.n t steps) out) ≡ true

-- each live output has a step with its values
pub record AreMet (w : Words) (steps : List Step) : Type 0 where
  pub each : (h : ℕ) → 1 ≤ h → h ≤ length w.on → is_live (specification w) h ≡ true → is_met w steps (h - 1) ≡ true

-- each out of a list has the specified values of its output
pub record AreOuts (w : Words) (steps : List Step) (outs : List Out) : Type 0 where
  pub each : (h : ℕ) → 1 ≤ h → h ≤ length outs → IsOutFor w steps h (slice_index_or outs (h - 1) Zero)
