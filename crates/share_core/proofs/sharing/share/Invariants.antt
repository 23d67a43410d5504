use Rattle.std.proofs.Common.{◌≤◌, length}
use Rattle.xag_core.specs.Xag.{HasEnds}
use Rattle.share_core.proofs.sharing.share.Given as goal

abbrev pub invariant-loop-is_xor : goal.invariant-loop-is_xor
invariant-loop-is_xor l = record {
  ends : HasEnds l.fn.xag l.best;
  size : length l.best.gates ≤ length l.fn.xag.gates;
}
