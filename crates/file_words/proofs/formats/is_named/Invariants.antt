use Rattle.std.proofs.Common.{◌≡◌, length, map}
use Rattle.std.specs.String.{string_bytes}
use Rattle.command_line.specs.CommandLine as spec
use Rattle.file_words.proofs.formats.is_named.Given as goal

abbrev pub invariant-loop-found : goal.invariant-loop-found
invariant-loop-found l = spec.is_named l.name (map string_bytes l.left) ≡ spec.is_named l.name (map string_bytes l.words)

abbrev pub decreases-loop-found : goal.decreases-loop-found
decreases-loop-found l = length l.left
