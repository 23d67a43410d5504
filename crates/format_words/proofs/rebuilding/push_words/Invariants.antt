use Rattle.std.proofs.Common.{◌≡◌, ◌++◌, length, map}
use Rattle.std.specs.String.{string_bytes}
use Rattle.format_words.proofs.rebuilding.push_words.Given as goal

abbrev pub invariant-loop-word : goal.invariant-loop-word
invariant-loop-word l = map string_bytes l.words.items ++ map string_bytes l.left ≡
    map string_bytes l.initial.words.items ++ map string_bytes l.more

abbrev pub decreases-loop-word : goal.decreases-loop-word
decreases-loop-word l = length l.left
