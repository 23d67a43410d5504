use Rattle.std.proofs.Common.{◌≡◌, ◌-◌, length, drop, true}
use Rattle.window_theory.specs.Nodes.{among}
use Rattle.window_core.proofs.specifying.index_of.Given as goal

abbrev pub invariant-loop-index : goal.invariant-loop-index
invariant-loop-index l = among (drop l.index l.nodes) l.node ≡ true

abbrev pub decreases-loop-index : goal.decreases-loop-index
decreases-loop-index l = length l.nodes - l.index
