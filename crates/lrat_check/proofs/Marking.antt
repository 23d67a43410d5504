-- Marking the literals of a list.
use Rattle.std.proofs.Common.{◌≡◌, ℤ, false, []}
use Rattle.std.proofs.lemmas.Grind.{common_steps}
use Rattle.sat_theory.specs.Holding.{among}
use Rattle.sat_theory.specs.HoldingLaws.{among-push}
use Rattle.lrat_check.specs.LiteralMarks.{Stamped, marked}

-- an empty set is that of no literals
pub marked-none : (m : Stamped) → ((l : ℤ) → marked m l ≡ false) → marked m ≡ among []
marked-none m none = λ i l. none l i

pub ruleset marking = (common_steps, marked-none, among-push)
