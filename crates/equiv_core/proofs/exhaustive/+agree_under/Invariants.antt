use Rattle.std.proofs.Common.{◌-◌, length}
use Rattle.equiv_core.proofs.exhaustive.+agree_under.Given as goal

abbrev pub decreases-agree_under : goal.decreases-agree_under
decreases-agree_under l = l.first.now.sources - length l.bits.now
