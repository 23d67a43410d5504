use Rattle.std.proofs.Common.{◌≡◌, ◌++◌, length}
use Rattle.equiv_run.specs.Texts.{characters}
use Rattle.cmd_at.proofs.writing.push_characters.Given as goal

abbrev pub invariant-loop-bit : goal.invariant-loop-bit
invariant-loop-bit l = l.text.items ++ characters l.left ≡ l.initial.text.items ++ characters l.bits

abbrev pub decreases-loop-bit : goal.decreases-loop-bit
decreases-loop-bit l = length l.left
