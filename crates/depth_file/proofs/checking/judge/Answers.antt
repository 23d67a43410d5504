-- The whole text is one piece.
use Rattle.std.proofs.Common.{[]}
use Rattle.depth_file.proofs.StageAnswers.{gives_refused}
use Rattle.depth_file.proofs.checking.judge.Goals as goal

pub returns-in_err-reader : goal.returns-in_err-reader
returns-in_err-reader c =
    gives_refused c.from_residual.result c.in_err-reader.field-0.0 c.args.bytes.now c.from_residual.ensures.1 (c.in_err-reader.ensures.read [] c.new.ensures.stands)

pub returns : goal.returns
returns c = (c.finish.ensures c.args.bytes.now (c.in_ok-reader.ensures.read [] c.new.ensures.stands)).exact
