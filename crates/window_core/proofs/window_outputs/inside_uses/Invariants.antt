use Rattle.std.proofs.Common.{length}
use Rattle.window_core.specs.Seen.{AreCounted}
use Rattle.window_core.proofs.window_outputs.inside_uses.Given as goal

abbrev pub invariant-loop-inside : goal.invariant-loop-inside
invariant-loop-inside l = AreCounted l.net l.gates l.left l.node l.uses

abbrev pub decreases-loop-inside : goal.decreases-loop-inside
decreases-loop-inside l = length l.left
