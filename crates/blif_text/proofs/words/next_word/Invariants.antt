use Rattle.std.proofs.Common.{◌≡◌, ◌+◌, ◌≤◌, length, take, drop, []}
use Rattle.blif_text.specs.Words.{words_from}
use Rattle.blif_text.proofs.words.next_word.Given as goal

abbrev pub invariant-loop-byte : goal.invariant-loop-byte
invariant-loop-byte l = record {
  same : words_from (take l.at l.start) l.left ≡ words_from [] l.text;
  place : l.left ≡ drop l.at l.start;
  size : l.at + length l.left ≡ length l.start;
  within : length l.start ≤ length l.text;
}

abbrev pub decreases-loop-byte : goal.decreases-loop-byte
decreases-loop-byte l = length l.left
