use Rattle.std.proofs.Common.{◌≡◌}
use Rattle.text_core.specs.Items.{items_of, items_left, size_left}
use Rattle.cert_theory.specs.Judging.{are_numbers}
use Rattle.cert_file.proofs.fence_names.are_numbers.Given as goal

abbrev pub invariant-loop-left : goal.invariant-loop-left
invariant-loop-left l = are_numbers (items_left l.left) ≡ are_numbers (items_of l.text)

abbrev pub decreases-loop-left : goal.decreases-loop-left
decreases-loop-left l = size_left l.left
