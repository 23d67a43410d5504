use Rattle.std.proofs.Common.{◌≡◌}
use Rattle.op_basis.specs.Left.{items_left, size_left}
use Rattle.op_basis.specs.Text as spec
use Rattle.op_basis.proofs.text.listed.Given as goal

abbrev pub invariant-loop-left : goal.invariant-loop-left
invariant-loop-left l = spec.listed l.set (items_left l.left) ≡ spec.listed 0 (spec.items_of l.word)

abbrev pub decreases-loop-left : goal.decreases-loop-left
decreases-loop-left l = size_left l.left
