-- Encodings that write the formulas of a method.
use Rattle.std.specs.Prelude.{◌≡◌, ℕ, List}
use Rattle.sat_theory.specs.Formula.{Formula}
use Rattle.tt_core.specs.Words.{Words}
use Rattle.enc_theory.specs.declared.subproblem.Subproblem.{Subproblem}
use Rattle.cert_theory.specs.Coding.{Coding}

-- the subproblems and formulas of an encoding are those of a coding
pub record IsCodedBy (c : Coding) (subproblems : Words → ℕ → List Subproblem) (formula : Words → ℕ → ℕ → Subproblem → Formula) : Type 0 where
  pub subproblems_are : (w : Words) (r : ℕ) → subproblems w r ≡ c.subproblems w r
  pub formulas_are : (w : Words) (basis r : ℕ) (subproblem : Subproblem) → formula w basis r subproblem ≡ c.formula w basis r subproblem
