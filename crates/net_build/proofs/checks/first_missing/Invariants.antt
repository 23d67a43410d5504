use Rattle.std.proofs.Common.{◌≡◌, length}
use Rattle.net_document.specs.Refusals.{missing}
use Rattle.net_build.proofs.checks.first_missing.Given as goal

abbrev pub invariant-loop-name : goal.invariant-loop-name
invariant-loop-name l = missing l.driven.keys l.left ≡ missing l.driven.keys l.names

abbrev pub decreases-loop-name : goal.decreases-loop-name
decreases-loop-name l = length l.left
