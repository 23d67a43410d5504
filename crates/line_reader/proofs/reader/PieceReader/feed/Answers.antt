-- The loop takes line after line, until nothing is left.
use Rattle.std.proofs.Common.{◌≡◌, [], ◌++◌, rules}
use Rattle.std.proofs.lemmas.Grind.{common_steps}
use Rattle.text_core.specs.Lines.{lines_of}
use Rattle.line_reader.specs.Seen.{seen}
use Rattle.line_reader.proofs.Splitting.{before_more, before_refused, before_all, has_err}
use Rattle.line_reader.proofs.reader.PieceReader.feed.Goals as goal

pub returns-in_err-reader-clause-read : goal.returns-in_err-reader-clause-read
returns-in_err-reader-clause-read g c = λ text stands.
    has_err seen g.S.LineStage.stands g.S.LineStage.refuses c.from_residual.result c.in_err-reader.field-0.0 (text ++ c.args.piece.now) c.from_residual.ensures.1
    (before_refused seen g.S.LineStage.stands g.S.LineStage.refuses (seen c.loop-text.reader) c.loop-text.left.now
    c.in-Some.rest.now (text ++ c.args.piece.now) (record { text = c.in-Some.text.now; ended = c.in-Some.ended })
    c.in_err-reader.field-0.0
    c.in-Some.ensures.some c.in_err-reader.ensures.read (c.loop-text.invariant.before text stands))

pub loop-text-preserved : goal.loop-text-preserved
loop-text-preserved g c = record {
  whole = c.in_ok-reader.ensures.whole;
  before = λ text stands.
      before_more seen g.S.LineStage.stands g.S.LineStage.refuses (seen c.loop-text.reader) c.in_ok-reader.reader
      c.loop-text.left.now c.in-Some.rest.now (text ++ c.args.piece.now) (record {
        text = c.in-Some.text.now;
        ended = c.in-Some.ended;
      })
      c.in-Some.ensures.some c.in_ok-reader.ensures.read (c.loop-text.invariant.before text stands);
}

pub returns-clause-read : goal.returns-clause-read
returns-clause-read g c = λ text stands.
    let none : lines_of c.loop-text.left.now ≡ [] = search (rules, common_steps) in
    before_all g.S.LineStage.stands (seen c.loop-text.reader) c.loop-text.left.now (text ++ c.args.piece.now) none (c.loop-text.invariant.before text stands)
