use Rattle.std.proofs.Common.{◌≡◌, ◌+◌, ◌++◌, length}
use Rattle.blif_text.specs.Words.{words_of}
use Rattle.blif_text.specs.Statements.{prefix_of, last_of}
use Rattle.blif_text.proofs.statements.split_last_word.Given as goal

abbrev pub invariant-loop-next : goal.invariant-loop-next
invariant-loop-next l = record {
  prefix : l.inputs.items ++ prefix_of l.word (words_of l.left) ≡ prefix_of l.first (words_of l.text);
  last : last_of l.word (words_of l.left) ≡ last_of l.first (words_of l.text);
  count : length l.inputs.items + length (words_of l.left) ≡ length (words_of l.text);
}

abbrev pub decreases-loop-next : goal.decreases-loop-next
decreases-loop-next l = length l.left
