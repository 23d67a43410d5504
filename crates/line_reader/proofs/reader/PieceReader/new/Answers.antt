-- Before anything was fed, the stage represents the empty text.
use Rattle.line_reader.proofs.Splitting.{stands_new}
use Rattle.line_reader.proofs.reader.PieceReader.new.Goals as goal

pub returns-clause-stands : goal.returns-clause-stands
returns-clause-stands g c = stands_new g.S.LineStage.stands c.start.result c.new.result.items c.new.ensures.items c.start.ensures.stands
