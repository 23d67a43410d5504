use Rattle.std.proofs.Common.{length}
use Rattle.benchmarks.proofs.check.feed_all.Given as goal

abbrev pub decreases-loop-line : goal.decreases-loop-line
decreases-loop-line l = length l.left
