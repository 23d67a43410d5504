use Rattle.std.proofs.Common.{◌≡◌, []}
use Rattle.text_core.specs.Items.{items_left, size_left}
use Rattle.lrat_text.specs.Reading.{hints_of}
use Rattle.lrat_text.proofs.reading.hints_of.Given as goal

abbrev pub invariant-loop-left : goal.invariant-loop-left
invariant-loop-left l = hints_of l.id l.lits.items l.hints.items (items_left l.left) ≡ hints_of l.id l.lits.items [] (items_left l.text)

abbrev pub decreases-loop-left : goal.decreases-loop-left
decreases-loop-left l = size_left l.left
