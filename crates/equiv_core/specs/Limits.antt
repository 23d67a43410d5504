-- Size limits of the nets in a miter, so that its variables and clauses can be numbered, and of its logs.
use Rattle.std.specs.Prelude.{ℕ, ◌+◌, ◌*◌, ◌≤◌, ◌<◌, List, length}
use Rattle.sat_theory.specs.Formula.{Formula}
use Rattle.sat_theory.specs.Line.{Line}
use Rattle.sat_theory.specs.Log.{additions}
use Rattle.net_theory.specs.Net.{Net}
use Rattle.net_theory.specs.Limits.{most_gates}

-- few enough sources and sinks
pub record IsSmall (n : Net) : Type 0 where
  pub sources : n.sources < 300000000
  pub sinks : length n.sinks < 300000000

-- and two nets with few enough gates
pub record AreSmall (first second : Net) : Type 0 where
  pub small : IsSmall first
  pub first_gates : length first.gates ≤ most_gates
  pub second_gates : length second.gates ≤ most_gates

-- how many additions a log of a miter may have past its budget: one for each clause, 102 for each variable, and four
abbrev pub most_past_miter : Formula → ℕ
most_past_miter f = length f.clauses + 102 * f.vars + 4

-- The budget bounds the additions of the log.
abbrev pub IsWithinBudget : ℕ → Formula → List Line → Type 0
IsWithinBudget budget f lines = additions lines ≤ budget + most_past_miter f
