-- The list has the sources up to `before`.
use Rattle.std.proofs.Common.{◌≡◌}
use Rattle.merge_core.specs.Whole.{count_from}
use Rattle.merge_core.proofs.whole.source_nodes.Given as goal

abbrev pub invariant-loop-before : goal.invariant-loop-before
invariant-loop-before l = l.nodes.items ≡ count_from 1 l.before
