use Rattle.std.proofs.Common.{◌≡◌, length, map}
use Rattle.std.specs.String.{string_bytes}
use Rattle.front_large.specs.LargeWords.{given_from}
use Rattle.front_large.specs.LargeValues.{given_value}
use Rattle.front_large.proofs.words.take_all.Given as goal

abbrev pub invariant-loop-name : goal.invariant-loop-name
invariant-loop-name l = given_from (given_value l.given) (map string_bytes l.left) ≡ given_from (given_value l.initial.given) (map string_bytes l.words)

abbrev pub decreases-loop-name : goal.decreases-loop-name
decreases-loop-name l = length l.left
