use Rattle.std.proofs.Common.{◌≡◌, length}
use Rattle.bench_text.specs.Items.{items_of}
use Rattle.bench_text.specs.Statements.{operands_from}
use Rattle.bench_text.proofs.operands.add_operands.Given as goal

abbrev pub invariant-loop-word : goal.invariant-loop-word
invariant-loop-word l = operands_from l.names.items (items_of l.left) ≡ operands_from l.initial.names.items (items_of l.text)

abbrev pub decreases-loop-word : goal.decreases-loop-word
decreases-loop-word l = length l.left
