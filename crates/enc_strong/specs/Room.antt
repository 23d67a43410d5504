-- Bounds of edges and of their variables, as preconditions of the functions that write clauses.
use Rattle.std.specs.Prelude.{ℕ, ◌+◌, ◌^◌, ◌≤◌, ◌<◌}
use Rattle.enc_theory.specs.declared.data.Dimensions.{Dimensions}
use Rattle.strong_theory.specs.declared.data.Edge.{Edge}

-- both are rows
pub record HasRows (z : Dimensions) (e : Edge) : Type 0 where
  pub low : e.low < 2 ^ z.n
  pub high : e.high < 2 ^ z.n

-- and the edge's variables, one for each step, are within
pub record HasEdge (z : Dimensions) (vars : ℕ) (e : Edge) (before : ℕ) : Type 0 where
  pub low : e.low < 2 ^ z.n
  pub high : e.high < 2 ^ z.n
  pub within : before + z.r ≤ vars
