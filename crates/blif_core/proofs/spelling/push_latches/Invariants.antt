use Rattle.std.proofs.Common.{◌≡◌, ◌++◌, length}
use Rattle.std.specs.Prelude.{All}
use Rattle.std.specs.List.{flat_map}
use Rattle.blif_core.specs.Spelling.{latch_text, HasInit}
use Rattle.blif_core.proofs.spelling.push_latches.Given as goal

abbrev pub invariant-loop-latch : goal.invariant-loop-latch
invariant-loop-latch l = record {
  same : l.text.items ++ flat_map latch_text l.left ≡ l.initial.text.items ++ flat_map latch_text l.latches;
  inits : All HasInit l.left;
}

abbrev pub decreases-loop-latch : goal.decreases-loop-latch
decreases-loop-latch l = length l.left
