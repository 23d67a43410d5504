-- The state after all lines, or their fault.
use Rattle.line_reader.proofs.reader.PieceReader.finish.Goals as goal

pub returns-in-Ok : goal.returns-in-Ok
returns-in-Ok g c = λ text stands.
    let closed = c.in-Ok.ensures.stands text stands in
    c.end.ensures text closed.0 closed.1

pub returns-in-Err : goal.returns-in-Err
returns-in-Err g c = λ text stands. g.met.S.LineStage.refusal c.in-Err.fault text (c.in-Err.ensures.stands text stands)
