-- The log begins without a line.
use Rattle.std.proofs.Common.{◌+◌, ◌∙◌, ap, subst, sym, []}
use Rattle.sat_theory.specs.Formula.{Formula}
use Rattle.cert_theory.specs.declared.data.LogEnd.{LogEnd}
use Rattle.cert_theory.specs.Judging.{sections_of, Begun, Within}
use Rattle.cert_file.specs.Logged.{IsReading}
use Rattle.cert_file.specs.Stages.{later_of, left_of}
use Rattle.cert_file.proofs.SectionLines.{progress, begun_fails, begun_goes}
use Rattle.cert_file.proofs.logs.at_begun.Goals as goal

pub returns-in_default-clause-answer : goal.returns-in_default-clause-answer
returns-in_default-clause-answer c = λ lines ls answer begun same.
    let r = c.args.running in
    begun.answer_is ∙ ap (sections_of r.header c.args.line.now.number (progress r.size r.low (Begun begun.subproblem (later_of r)))) same
    ∙ begun_fails r.header c.args.line.now.number r.size r.low begun.subproblem (later_of r) _ ls (sym c.in_default.ensures)

pub returns-clause-answer : goal.returns-clause-answer
returns-clause-answer c = λ lines ls answer begun same.
    let r = c.args.running in
    let is = begun.answer_is ∙ ap (sections_of r.header c.args.line.now.number (progress r.size r.low (Begun begun.subproblem (later_of r)))) same in
    record {
      subproblem = begun.subproblem;
      is_subproblem = begun.is_subproblem;
      log = [];
      reading = subst (λ (f : Formula). IsReading f r.header.conflicts [] c.in_ok-reader.reader) (c.in_ok-cnf.ensures begun.subproblem begun.is_subproblem) c.in_ok-reader.ensures.reading;
      answer_is =
          is
          ∙ begun_goes r.header c.args.line.now.number r.size r.low begun.subproblem (later_of r) _ ls c.in-Some.end (sym c.in-Some.ensures)
          ∙ ap (λ (e : LogEnd). sections_of r.header (c.args.line.now.number + 1) (progress r.size r.low (Within begun.subproblem (left_of r e) e [])) ls) (sym c.in_ok-reader.ensures.ended);
    }
