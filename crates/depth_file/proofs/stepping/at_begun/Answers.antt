-- The log begins without a line.
use Rattle.std.proofs.Common.{[], sym, ap, ◌∙◌, subst, ◌+◌}
use Rattle.sat_theory.specs.Formula.{Formula}
use Rattle.cert_theory.specs.declared.data.LogEnd.{LogEnd}
use Rattle.cert_file.specs.Logged.{IsReading}
use Rattle.depth_theory.specs.DepthJudging.{Begun, Within}
use Rattle.depth_file.specs.Stages.{later_of}
use Rattle.depth_file.proofs.Going.{flat, begun_fails, begun_goes}
use Rattle.depth_file.proofs.stepping.at_begun.Goals as goal

pub returns-in_default-clause-answer : goal.returns-in_default-clause-answer
returns-in_default-clause-answer c = λ lines ls answer begun same.
    let f = c.args.flat in
    begun.answer_is ∙ ap (flat f c.args.line.now.number (Begun begun.fence (later_of f))) same
    ∙ begun_fails f begun.fence (later_of f) c.args.line.now.number _ ls (sym c.in_default.ensures)

pub returns-clause-answer : goal.returns-clause-answer
returns-clause-answer c = λ lines ls answer begun same.
    let f = c.args.flat in
    let is = begun.answer_is ∙ ap (flat f c.args.line.now.number (Begun begun.fence (later_of f))) same in
    record {
      fence = begun.fence;
      is_next = begun.is_next;
      log = [];
      reading = subst (λ (g : Formula). IsReading g f.chain.header.conflicts [] c.in_ok-reader.reader) (c.in_ok-cnf.ensures begun.fence begun.is_next) c.in_ok-reader.ensures.reading;
      answer_is =
          is
          ∙ begun_goes f begun.fence (later_of f) c.args.line.now.number _ ls c.in-Some.end (sym c.in-Some.ensures)
          ∙ ap (λ (e : LogEnd). flat f (c.args.line.now.number + 1) (Within begun.fence (later_of f) e []) ls) (sym c.in_ok-reader.ensures.ended);
    }
