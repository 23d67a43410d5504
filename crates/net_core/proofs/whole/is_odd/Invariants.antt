use Rattle.std.proofs.Common.{◌≡◌, length}
use Rattle.net_theory.specs.Cover.{is_odd}
use Rattle.net_core.proofs.WholeTables.{odd_from}
use Rattle.net_core.proofs.whole.is_odd.Given as goal

abbrev pub invariant-loop-bit : goal.invariant-loop-bit
invariant-loop-bit l = odd_from l.odd l.left ≡ is_odd l.bits

abbrev pub decreases-loop-bit : goal.decreases-loop-bit
decreases-loop-bit l = length l.left
