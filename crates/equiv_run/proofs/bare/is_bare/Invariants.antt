use Rattle.std.proofs.Common.{◌≡◌, length}
use Rattle.equiv_run.specs.Two.{is_bare}
use Rattle.equiv_run.proofs.bare.is_bare.Given as goal

abbrev pub invariant-loop-line : goal.invariant-loop-line
invariant-loop-line l = is_bare l.left ≡ is_bare l.bytes

abbrev pub decreases-loop-line : goal.decreases-loop-line
decreases-loop-line l = length l.left
