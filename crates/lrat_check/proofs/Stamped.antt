-- Stamps for the literals of a list, and of all live clauses.
use Rattle.std.proofs.Common.{ℕ, ℤ, List, Option, All, arith}
use Rattle.std.proofs.lemmas.Grind.{common_steps}
use Rattle.sat_theory.specs.Formula.{IsWithin}
use Rattle.lrat_check.specs.Live.{AreWithin}
use Rattle.lrat_check.specs.LiteralMarks.{Stamped, HasRoom, HasStamps, HaveStamps}
use Rattle.lrat_check.proofs.Above.{none_above}

-- the literals of the variables 1 to vars have stamps
pub within_stamps : (m : Stamped) (vars : ℕ) (lits : List ℤ) → HasRoom m vars → IsWithin vars lits → All (HasStamps m) lits
within_stamps m vars lits room within = λ k d low. let below = within k d low in omega (arith, room, below)

pub live_stamps : (m : Stamped) (vars : ℕ) (live : ℕ → Option (List ℤ)) → HasRoom m vars → AreWithin vars live → HaveStamps m live
live_stamps m vars live room within = record { each = λ id clause is. within_stamps m vars clause room (within.each id clause is) }

pub ruleset stamped = (common_steps, none_above, within_stamps, live_stamps)
