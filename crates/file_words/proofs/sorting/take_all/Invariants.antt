use Rattle.std.proofs.Common.{◌≡◌, length, map}
use Rattle.std.specs.String.{string_bytes}
use Rattle.file_words.specs.Sorting.{sorted}
use Rattle.file_words.specs.Lines.{line_value}
use Rattle.file_words.proofs.sorting.take_all.Given as goal

-- the words so far, and then those that are left
abbrev pub invariant-loop-word : goal.invariant-loop-word
invariant-loop-word l = sorted (line_value l.line) (map string_bytes l.left) ≡ sorted (line_value l.initial.line) (map string_bytes l.words)

abbrev pub decreases-loop-word : goal.decreases-loop-word
decreases-loop-word l = length l.left
