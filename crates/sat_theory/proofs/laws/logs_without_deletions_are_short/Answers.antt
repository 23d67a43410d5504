use Rattle.sat_theory.specs.FewAdditions.{budget_undeleted}
use Rattle.sat_theory.proofs.laws.logs_without_deletions_are_short.Goals as goal

pub returns : goal.returns
returns c = budget_undeleted
