-- The steps make the functions that are known so far.
use Rattle.std.proofs.Common.{◌-◌}
use Rattle.op_basis.specs.Basis.{members}
use Rattle.net_basis.proofs.Closures.{IsGrowing}
use Rattle.net_basis.proofs.Counts.{known_below}
use Rattle.net_basis.proofs.closure.closure_of.Given as goal

abbrev pub invariant-loop-join : goal.invariant-loop-join
invariant-loop-join l = IsGrowing (members l.basis) (members l.known) l.joins.items

abbrev pub decreases-loop-join : goal.decreases-loop-join
decreases-loop-join l = 16 - known_below (members l.known) 16
