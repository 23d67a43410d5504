use Rattle.net_levels.specs.CleanupLaws.{cleanup_levels}
use Rattle.net_levels.proofs.laws.cleanup_keeps_levels.Goals as goal

pub returns : goal.returns
returns c = cleanup_levels
