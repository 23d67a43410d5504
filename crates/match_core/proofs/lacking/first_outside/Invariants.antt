use Rattle.std.proofs.Common.{◌≡◌, length}
use Rattle.net_document.specs.Refusals.{missing}
use Rattle.match_core.proofs.lacking.first_outside.Given as goal

abbrev pub invariant-loop-name : goal.invariant-loop-name
invariant-loop-name l = missing l.set.keys l.left ≡ missing l.set.keys l.names

abbrev pub decreases-loop-name : goal.decreases-loop-name
decreases-loop-name l = length l.left
