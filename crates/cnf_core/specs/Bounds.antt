-- How large literals and formulas may be.
use Rattle.std.specs.Prelude.{◌<◌, ◌^◌, ℤ, length}
use Rattle.sat_theory.specs.Formula.{variable, Formula, IsFormula}

-- a DIMACS number that is neither 0 nor the least 32-bit integer, so that each literal has an opposite
pub record IsLit (l : ℤ) : Type 0 where
  pub some : 0 < variable l
  pub small : variable l < 2 ^ 31

-- bounds so that variables and ids fit in 32 bits, with room for the clauses that a log adds
pub record IsCnf (f : Formula) : Type 0 where
  pub formula : IsFormula f
  pub few_variables : f.vars < 1000000000
  pub few_clauses : length f.clauses < 2000000000
