use Rattle.std.proofs.Common.{◌≡◌, length}
use Rattle.frame_tests.specs.Held as spec
use Rattle.frame_tests.proofs.files.found.Given as goal

abbrev pub invariant-loop-file : goal.invariant-loop-file
invariant-loop-file l = spec.found l.left l.name ≡ spec.found l.files l.name

abbrev pub decreases-loop-file : goal.decreases-loop-file
decreases-loop-file l = length l.left
