use Rattle.std.proofs.Common.{◌≡◌, length}
use Rattle.net_document.specs.Contents.{trimmed}
use Rattle.net_document.proofs.contents.trim.Given as goal

abbrev pub invariant-loop-last : goal.invariant-loop-last
invariant-loop-last l = trimmed l.left ≡ trimmed l.text

abbrev pub decreases-loop-last : goal.decreases-loop-last
decreases-loop-last l = length l.left
