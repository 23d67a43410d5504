use Rattle.std.proofs.Common.{◌≡◌, length, map}
use Rattle.std.specs.String.{string_bytes}
use Rattle.cmd_formula.specs.Words.{asked_from}
use Rattle.cmd_formula.specs.WordValues.{asked_value}
use Rattle.cmd_formula.proofs.words.take_all.Given as goal

abbrev pub invariant-loop-name : goal.invariant-loop-name
invariant-loop-name l = asked_from (asked_value l.asked) (map string_bytes l.left) ≡ asked_from (asked_value l.initial.asked) (map string_bytes l.words)

abbrev pub decreases-loop-name : goal.decreases-loop-name
decreases-loop-name l = length l.left
