use Rattle.std.proofs.Common.{◌≡◌, ◌++◌, length}
use Rattle.gen_core.specs.Generated.{names_of}
use Rattle.gen_core.proofs.blocks.names_of.Given as goal

abbrev pub invariant-loop-letter : goal.invariant-loop-letter
invariant-loop-letter l = l.names.items ++ names_of l.block l.left ≡ names_of l.block l.letters

abbrev pub decreases-loop-letter : goal.decreases-loop-letter
decreases-loop-letter l = length l.left
