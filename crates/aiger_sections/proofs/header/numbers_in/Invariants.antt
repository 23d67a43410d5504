use Rattle.std.proofs.Common.{◌≡◌, []}
use Rattle.text_core.specs.Items.{items_of, items_left, size_left}
use Rattle.aiger_sections.specs.Header.{numbers_from}
use Rattle.aiger_sections.proofs.header.numbers_in.Given as goal

abbrev pub invariant-loop-left : goal.invariant-loop-left
invariant-loop-left l = numbers_from l.numbers.items (items_left l.left) ≡ numbers_from [] (items_of l.text)

abbrev pub decreases-loop-left : goal.decreases-loop-left
decreases-loop-left l = size_left l.left
