use Rattle.std.proofs.Common.{◌≡◌, ◌++◌, length}
use Rattle.net_document.proofs.names.add_copies.Given as goal

abbrev pub invariant-loop-name : goal.invariant-loop-name
invariant-loop-name l = l.names.items ++ l.left ≡ l.initial.names.items ++ l.others

abbrev pub decreases-loop-name : goal.decreases-loop-name
decreases-loop-name l = length l.left
