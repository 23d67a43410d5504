use Rattle.sat_theory.specs.FewAdditions.{budget_kept}
use Rattle.sat_theory.proofs.laws.half_live_logs_are_short.Goals as goal

pub returns : goal.returns
returns c = budget_kept
