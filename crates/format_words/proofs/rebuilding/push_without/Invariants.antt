use Rattle.std.proofs.Common.{◌≡◌, ◌++◌, length, map}
use Rattle.std.specs.String.{string_bytes}
use Rattle.format_words.specs.FormatsAsked.{without}
use Rattle.format_words.proofs.rebuilding.push_without.Given as goal

abbrev pub invariant-loop-name : goal.invariant-loop-name
invariant-loop-name l = map string_bytes l.words.items ++ without l.option (map string_bytes l.left) ≡
    map string_bytes l.initial.words.items ++ without l.option (map string_bytes l.options)

abbrev pub decreases-loop-name : goal.decreases-loop-name
decreases-loop-name l = length l.left
