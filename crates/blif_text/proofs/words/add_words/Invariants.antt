use Rattle.std.proofs.Common.{◌≡◌, ◌++◌, length}
use Rattle.blif_text.specs.Words.{words_of}
use Rattle.blif_text.proofs.words.add_words.Given as goal

abbrev pub invariant-loop-word : goal.invariant-loop-word
invariant-loop-word l = l.names.items ++ words_of l.left ≡ l.initial.names.items ++ words_of l.text

abbrev pub decreases-loop-word : goal.decreases-loop-word
decreases-loop-word l = length l.left
