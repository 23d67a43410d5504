use Rattle.std.proofs.Common.{◌≡◌, map, length}
use Rattle.std.specs.String.{string_bytes}
use Rattle.front_app.specs.Named.{names_method}
use Rattle.front_app.proofs.named.names_method.Given as goal

abbrev pub invariant-loop-word : goal.invariant-loop-word
invariant-loop-word l = names_method (map string_bytes l.left) ≡ names_method (map string_bytes l.words.items)

abbrev pub decreases-loop-word : goal.decreases-loop-word
decreases-loop-word l = length l.left
