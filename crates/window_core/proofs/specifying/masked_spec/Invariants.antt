use Rattle.std.proofs.Common.{length}
use Rattle.window_core.specs.Masking.{AreMasked}
use Rattle.window_core.proofs.specifying.masked_spec.Given as goal

abbrev pub invariant-loop-node : goal.invariant-loop-node
invariant-loop-node l = AreMasked l.cone l.mask l.window.outputs l.left l.on.items l.cares.items

abbrev pub decreases-loop-node : goal.decreases-loop-node
decreases-loop-node l = length l.left
