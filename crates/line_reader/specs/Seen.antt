-- A reader, as contracts see it.
use Rattle.line_reader.specs.Reader.{Reader}
use Rattle.line_reader.specs.declared.reader.PieceReader.{PieceReader}

abbrev pub seen : {S : Type 0} → PieceReader S → Reader S
seen r = record { stage = r.stage; number = r.number; unfinished = r.unfinished.items }
