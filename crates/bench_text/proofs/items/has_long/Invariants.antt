use Rattle.std.proofs.Common.{◌≡◌, length}
use Rattle.blif_text.specs.Words.{has_long}
use Rattle.bench_text.specs.Items.{items_of}
use Rattle.bench_text.proofs.items.has_long.Given as goal

abbrev pub invariant-loop-item : goal.invariant-loop-item
invariant-loop-item l = has_long (items_of l.left) ≡ has_long (items_of l.text)

abbrev pub decreases-loop-item : goal.decreases-loop-item
decreases-loop-item l = length l.left
