-- A line of a log, or its end.
use Rattle.std.proofs.Common.{◌≡◌, ◌+◌, ◌∷◌, ◌++◌, [], ◌∙◌, ap, sym, subst, Some, None, Ok}
use Rattle.cert_theory.specs.declared.data.LogEnd.{LogEnd}
use Rattle.cert_theory.specs.declared.data.CertificateError.{CertificateError}
use Rattle.cert_theory.specs.Certificate.{formula_of}
use Rattle.cert_theory.specs.Gives.{Fails}
use Rattle.cert_theory.specs.SubproblemLines.{subproblem_in}
use Rattle.cert_theory.specs.Judging.{sections_of, before, low_with, fault_at, Within}
use Rattle.cert_theory.specs.GivesLaws.{fails_is}
use Rattle.cert_file.specs.declared.subproblem.SubproblemStep.{SubproblemStep}
use Rattle.line_reader.specs.TextLines.{line_of}
use Rattle.cert_file.specs.Logged.{HasMore, IsFed}
use Rattle.cert_file.specs.Stages.{left_of}
use Rattle.cert_file.proofs.SectionLines.{progress, subproblem_fails, subproblem_goes}
use Rattle.cert_file.proofs.logs.at_within.Goals as goal

pub returns-in-Ok-More-clause-answer : goal.returns-in-Ok-More-clause-answer
returns-in-Ok-More-clause-answer c = λ lines ls answer stands same.
    let r = c.args.running in
    let n = c.args.line.now.number in
    let end = c.args.reader.ended in
    let f = formula_of r.header r.size stands.subproblem in
    let more : HasMore f r.header.conflicts end stands.log (line_of c.args.line.now) c.in-Ok-More.reader =
    subst (λ (step : SubproblemStep). IsFed f r.header.conflicts end stands.log (line_of c.args.line.now) (Ok step))
    c.in-Ok-More.field-0-is (c.in-Ok-More.ensures f r.header.conflicts stands.log stands.reading) in
    record {
      subproblem = stands.subproblem;
      is_subproblem = stands.is_subproblem;
      log = stands.log ++ more.line ∷ [];
      reading = more.reading;
      answer_is =
          stands.answer_is
          ∙ ap (sections_of r.header n (progress r.size r.low (Within stands.subproblem (left_of r end) end stands.log))) same
          ∙ subproblem_goes r.header n r.size r.low stands.subproblem (left_of r end) end stands.log _ ls (Some more.line) more.read
          ∙ ap (λ (e : LogEnd). sections_of r.header (n + 1) (progress r.size r.low (Within stands.subproblem (left_of r e) e (stands.log ++ more.line ∷ []))) ls) (sym more.same_end);
    }

pub returns-in-Ok-Done-clause-answer : goal.returns-in-Ok-Done-clause-answer
returns-in-Ok-Done-clause-answer c = λ lines ls answer stands same.
    let r = c.args.running in
    let n = c.args.line.now.number in
    let end = c.args.reader.ended in
    let f = formula_of r.header r.size stands.subproblem in
    let done : subproblem_in f r.header.conflicts end stands.log (line_of c.args.line.now) ≡ Ok None =
    subst (λ (step : SubproblemStep). IsFed f r.header.conflicts end stands.log (line_of c.args.line.now) (Ok step))
    c.in-Ok-Done.field-0-is (c.in-Ok-Done.ensures f r.header.conflicts stands.log stands.reading) in
    c.following.ensures.stands (n + 1) ls answer
    (stands.answer_is
    ∙ ap (sections_of r.header n (progress r.size r.low (Within stands.subproblem (left_of r end) end stands.log))) same
    ∙ subproblem_goes r.header n r.size r.low stands.subproblem (left_of r end) end stands.log _ ls None done
    ∙ ap (λ (e : LogEnd). sections_of r.header (n + 1) (before r.size (low_with r.low e r.size) (left_of r e)) ls) (sym c.ended-end.ensures))

pub returns-in-Err-clause-answer : goal.returns-in-Err-clause-answer
returns-in-Err-clause-answer c = λ lines ls answer stands same.
    let r = c.args.running in
    let n = c.args.line.now.number in
    let end = c.args.reader.ended in
    let e = c.in-Err.fault in
    subst (λ (d : CertificateError). Fails d answer) (sym c.fault_at.ensures)
    (fails_is (fault_at n e) _ answer (stands.answer_is ∙ ap (sections_of r.header n (progress r.size r.low (Within stands.subproblem (left_of r end) end stands.log))) same)
    (subproblem_fails r.header n r.size r.low stands.subproblem (left_of r end) end stands.log _ ls e
    (c.in-Err.ensures (formula_of r.header r.size stands.subproblem) r.header.conflicts stands.log stands.reading)))

pub returns-in-Ok-Done-clause-keeps_claim : goal.returns-in-Ok-Done-clause-keeps_claim
returns-in-Ok-Done-clause-keeps_claim c = λ ls all kept. c.following.ensures.keeps_claim (c.args.line.now.number + 1) ls all kept
