use Rattle.std.specs.Prelude.{◌≡◌, length}
use Rattle.window_attempt.specs.PartnerLaws.{first_below}
use Rattle.window_attempt.proofs.partners.first_below.Given as goal

abbrev pub invariant-loop-node : goal.invariant-loop-node
invariant-loop-node l = first_below l.left l.below ≡ first_below l.nodes l.below

abbrev pub decreases-loop-node : goal.decreases-loop-node
decreases-loop-node l = length l.left
