use Rattle.std.proofs.Common.{◌≡◌, length}
use Rattle.blif_text.specs.Words.{words_of, has_long}
use Rattle.blif_text.proofs.words.has_long.Given as goal

abbrev pub invariant-loop-word : goal.invariant-loop-word
invariant-loop-word l = has_long (words_of l.left) ≡ has_long (words_of l.text)

abbrev pub decreases-loop-word : goal.decreases-loop-word
decreases-loop-word l = length l.left
