use Rattle.std.proofs.Common.{◌≡◌, take}
use Rattle.tt_core.specs.Cells.{on_bit, care_bit, word_of}
use Rattle.tt_core.proofs.cells.row_words.Given as goal

abbrev pub invariant-loop-row : goal.invariant-loop-row
invariant-loop-row l = (l.on ≡ word_of on_bit (take l.row l.text)) × (l.care ≡ word_of care_bit (take l.row l.text))
