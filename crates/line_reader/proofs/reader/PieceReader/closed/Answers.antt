-- The end of the text.
use Rattle.text_core.specs.Lines.{lines_of}
use Rattle.line_reader.specs.Seen.{seen}
use Rattle.line_reader.proofs.Splitting.{stands_end, place_end}
use Rattle.line_reader.proofs.reader.PieceReader.closed.Goals as goal

pub returns-clause-stands : goal.returns-clause-stands
returns-clause-stands g c = λ text stands.
    c.close.ensures.stands (lines_of text) stands.split.is_unfinished (place_end g.S.LineStage.stands (seen c.args.self) text stands) (stands_end g.S.LineStage.stands (seen c.args.self) text stands)
