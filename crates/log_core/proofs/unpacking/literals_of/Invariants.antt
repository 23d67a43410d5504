use Rattle.std.proofs.Common.{◌≡◌, ◌++◌, length}
use Rattle.log_core.specs.Numbers.{numbers_from}
use Rattle.log_core.specs.Lists.{literals_from, literals_of}
use Rattle.log_core.proofs.unpacking.literals_of.Given as goal

abbrev pub invariant-loop-number : goal.invariant-loop-number
invariant-loop-number l = l.lits.items ++ literals_from (numbers_from 0 l.left) ≡ literals_of l.bytes

abbrev pub decreases-loop-number : goal.decreases-loop-number
decreases-loop-number l = length l.left
