use Rattle.std.proofs.Common.{◌≡◌, ◌++◌}
use Rattle.text_core.specs.Items.{items_of, items_left, size_left}
use Rattle.command_line.specs.CommandLine.{spelled}
use Rattle.batsokemi_c.proofs.words.items_in.Given as goal

abbrev pub invariant-loop-left : goal.invariant-loop-left
invariant-loop-left l = spelled l.words ++ items_left l.left ≡ items_of l.command

abbrev pub decreases-loop-left : goal.decreases-loop-left
decreases-loop-left l = size_left l.left
