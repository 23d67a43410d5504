use Rattle.batsokemi_c.specs.AnsweringLaws.{refused_by, too_long_by, idle_by}
use Rattle.batsokemi_c.proofs.laws.calls_refuse.Goals as goal

pub returns-clause-faults : goal.returns-clause-faults
returns-clause-faults c = refused_by

pub returns-clause-long : goal.returns-clause-long
returns-clause-long c = too_long_by

pub returns-clause-usage : goal.returns-clause-usage
returns-clause-usage c = idle_by
