use Rattle.std.proofs.Common.{◌≡◌, length}
use Rattle.blif_text.specs.Words.{words_of}
use Rattle.blif_text.specs.Statements.{are_names}
use Rattle.blif_text.proofs.words.are_names.Given as goal

abbrev pub invariant-loop-word : goal.invariant-loop-word
invariant-loop-word l = are_names (words_of l.left) ≡ are_names (words_of l.text)

abbrev pub decreases-loop-word : goal.decreases-loop-word
decreases-loop-word l = length l.left
