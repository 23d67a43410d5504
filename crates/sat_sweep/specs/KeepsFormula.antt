-- A solver stays a solver of its formula, and its log stays short.
use Rattle.std.specs.Prelude.{◌≡◌, ◌≤◌, ℕ, ◌+◌, max}
use Rattle.sat_theory.specs.Formula.{Formula}

-- how many additions the log has after the last question, if a question is asked only while it has fewer than `most`
abbrev pub most_after : ℕ → ℕ → ℕ
most_after most vars = most + vars + 2

-- Of whatever formula it was a solver, and however many additions its log has to have at least, it still is; it has
-- as many variables as before; and its log has no more additions than before, or than `most` and one question allow.
pub record KeepsFormula {A : Type 0} (IsSolverOf : Formula → ℕ → A → Type 0) (vars_of additions_of : A → ℕ) (most : ℕ) (before after : A) : Type 0 where
  pub kept : (f : Formula) (least : ℕ) → IsSolverOf f least before → IsSolverOf f least after
  pub vars : vars_of after ≡ vars_of before
  pub few : additions_of after ≤ max (additions_of before) (most_after most (vars_of before))
