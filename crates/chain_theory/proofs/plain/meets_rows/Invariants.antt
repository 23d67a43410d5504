use Rattle.std.proofs.Common.{◌≡◌, ℕ, ◌<◌, true, get_or, []}
use Rattle.chain_theory.specs.Value.{out_value}
use Rattle.chain_theory.specs.Agreement.{is_met}
use Rattle.chain_theory.specs.Plain.{chain_of}
use Rattle.chain_theory.specs.declared.data.Cell.TheVariants.{Free}
use Rattle.chain_theory.proofs.plain.meets_rows.Given as goal

pub record SoFar (n row index : ℕ) (P : ℕ → Type 0) : Type 0 where
  pub row_is : row ≡ index
  pub met : (t : ℕ) → t < index → P t

abbrev pub invariant-loop-cell : goal.invariant-loop-cell
invariant-loop-cell l = SoFar l.n l.row l.cell-index (λ t. is_met (get_or l.cells t Free) (out_value (chain_of l.n l.steps []) t l.out) ≡ true)
