use Rattle.std.proofs.Common.{◌≡◌, ◌++◌, length}
use Rattle.std.specs.List.{flat_map}
use Rattle.bench_core.specs.Spelling.{latch_text}
use Rattle.bench_core.proofs.spelling.push_latches.Given as goal

abbrev pub invariant-loop-line : goal.invariant-loop-line
invariant-loop-line l = l.text.items ++ flat_map (latch_text) l.left ≡ l.initial.text.items ++ flat_map (latch_text) l.latches

abbrev pub decreases-loop-line : goal.decreases-loop-line
decreases-loop-line l = length l.left
