use Rattle.std.proofs.Common.{◌≡◌, ◌++◌, length}
use Rattle.std.specs.List.{flat_map}
use Rattle.aiger_text.specs.Spelling.{latch_text}
use Rattle.aiger_text.proofs.writing.push_latches.Given as goal

abbrev pub invariant-loop-latch : goal.invariant-loop-latch
invariant-loop-latch l = l.text.items ++ flat_map latch_text l.left ≡ l.initial.text.items ++ flat_map latch_text l.latches

abbrev pub decreases-loop-latch : goal.decreases-loop-latch
decreases-loop-latch l = length l.left
