use Rattle.std.proofs.Common.{◌≡◌, ◌++◌, length}
use Rattle.log_core.specs.Numbers.{numbers_from}
use Rattle.log_core.specs.Lists.{ids_from, ids_of}
use Rattle.log_core.proofs.unpacking.ids_of.Given as goal

abbrev pub invariant-loop-number : goal.invariant-loop-number
invariant-loop-number l = l.ids.items ++ ids_from l.last (numbers_from 0 l.left) ≡ ids_of l.bytes

abbrev pub decreases-loop-number : goal.decreases-loop-number
decreases-loop-number l = length l.left
