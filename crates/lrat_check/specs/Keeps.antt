-- The invariant of a checker.
use Rattle.std.specs.Prelude.{ℕ}
use Rattle.lrat_check.specs.Live.{Live, live_at, AreClauses, AreWithin}
use Rattle.lrat_check.specs.LiteralMarks.{Stamped, HasRoom}

-- The live clauses are clauses over the variables 1 to vars, and there is a mark for each literal.
pub record IsChecker (vars : ℕ) (live : Live) (marks : Stamped) : Type 0 where
  pub clauses : AreClauses (live_at live)
  pub within : AreWithin vars (live_at live)
  pub room : HasRoom marks vars
