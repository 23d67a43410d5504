use Rattle.std.proofs.Common.{◌≡◌, map, length}
use Rattle.std.specs.String.{string_bytes}
use Rattle.command_line.specs.CommandLine as spec
use Rattle.format_words.proofs.asking.word_after.Given as goal

abbrev pub invariant-loop-found : goal.invariant-loop-found
invariant-loop-found l = spec.word_after l.name (map string_bytes l.left) ≡ spec.word_after l.name (map string_bytes l.words)

abbrev pub decreases-loop-found : goal.decreases-loop-found
decreases-loop-found l = length l.left
