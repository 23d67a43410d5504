-- The text that the reader represents, followed by what is left, is the whole text.
use Rattle.std.proofs.Common.{List, ℕ, ◌++◌, length}
use Rattle.line_reader.specs.Reader.{IsReader, StandsFor}
use Rattle.line_reader.specs.Seen.{seen}
use Rattle.line_reader.proofs.Splitting.{IsBefore}
use Rattle.line_reader.proofs.reader.PieceReader.feed.Given as goal

abbrev pub invariant-loop-text : goal.invariant-loop-text
invariant-loop-text g l = record {
  whole : IsReader g.S.LineStage.whole (seen l.reader);
  before : (text : List ℕ) → StandsFor g.S.LineStage.stands (seen l.fn.self) text → IsBefore g.S.LineStage.stands (seen l.reader) l.left (text ++ l.piece);
}

abbrev pub decreases-loop-text : goal.decreases-loop-text
decreases-loop-text g l = length l.left
