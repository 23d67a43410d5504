use Rattle.std.proofs.Common.{◌≡◌, map, length, false}
use Rattle.std.specs.String.{string_bytes}
use Rattle.front_guide.specs.Words as spec
use Rattle.front_guide.proofs.guiding.names_help.Given as goal

abbrev pub invariant-loop-word : goal.invariant-loop-word
invariant-loop-word l =
    spec.names_help l.is_file (map string_bytes l.left) ≡ spec.names_help false (map string_bytes l.words)

abbrev pub decreases-loop-word : goal.decreases-loop-word
decreases-loop-word l = length l.left
