use Rattle.std.proofs.Common.{◌≡◌, map, length}
use Rattle.std.specs.String.{string_bytes}
use Rattle.command_line.specs.Options.{options_of}
use Rattle.command_line.specs.CommandLine as spec
use Rattle.command_line.proofs.pairs.are_options.Given as goal

abbrev pub invariant-loop-name : goal.invariant-loop-name
invariant-loop-name l = spec.are_options (options_of l.kind) (map string_bytes l.left) ≡ spec.are_options (options_of l.kind) (map string_bytes l.words)

abbrev pub decreases-loop-name : goal.decreases-loop-name
decreases-loop-name l = length l.left
