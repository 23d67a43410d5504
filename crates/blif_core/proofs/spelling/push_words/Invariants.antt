use Rattle.std.proofs.Common.{◌≡◌, ◌++◌, length}
use Rattle.blif_core.specs.Spelling.{words_text}
use Rattle.blif_core.proofs.spelling.push_words.Given as goal

abbrev pub invariant-loop-name : goal.invariant-loop-name
invariant-loop-name l = l.text.items ++ words_text l.left ≡ l.initial.text.items ++ words_text l.names

abbrev pub decreases-loop-name : goal.decreases-loop-name
decreases-loop-name l = length l.left
