-- The name that is due was read, is at fault, or there is none.
use Rattle.std.proofs.Common.{◌∙◌, ◌∷◌, List, Bool, Ok, Err, ap, refl, sym, subst}
use Rattle.line_reader.specs.TextLines.{line_of}
use Rattle.enc_theory.specs.declared.subproblem.Subproblem.{Subproblem}
use Rattle.cert_theory.specs.declared.data.CertificateError.{CertificateError}
use Rattle.cert_theory.specs.Gives.{Fails}
use Rattle.cert_theory.specs.Judging.{before, fault_at, sections_of}
use Rattle.cert_theory.specs.GivesLaws.{fails_is}
use Rattle.cert_file.specs.Stages.{later_of}
use Rattle.cert_file.specs.FenceNames.{IsFenceNamed}
use Rattle.cert_file.proofs.SectionLines.{named_fails, named_goes, untitled_goes}
use Rattle.cert_file.proofs.fence_names.at_due.Goals as goal

pub returns-in-Err-clause-answer : goal.returns-in-Err-clause-answer
returns-in-Err-clause-answer c = λ ls answer is.
    let r = c.args.running in
    let n = c.args.line.now.number in
    let l = line_of c.args.line.now in
    let subproblem = c.subproblem_in.result.now in
    let e = c.in-Err.fault in
    let named = is ∙ ap (λ (ps : List Subproblem). sections_of r.header n (before r.size r.low ps) (l ∷ ls)) c.subproblem_in.ensures in
    subst (λ (d : CertificateError). Fails d answer) (sym c.fault_at.ensures)
    (fails_is (fault_at n e) _ answer named
    (named_fails subproblem r.header n r.size r.low (later_of r) l ls e (subst (λ (follows : Bool). IsFenceNamed subproblem follows l (Err e)) c.may_follow.ensures c.in-Err.ensures)))

pub returns-then-is_named-clause-answer : goal.returns-then-is_named-clause-answer
returns-then-is_named-clause-answer c = λ ls answer is.
    let r = c.args.running in
    let n = c.args.line.now.number in
    let l = line_of c.args.line.now in
    let subproblem = c.subproblem_in.result.now in
    let named = is ∙ ap (λ (ps : List Subproblem). sections_of r.header n (before r.size r.low ps) (l ∷ ls)) c.subproblem_in.ensures in
    record {
      subproblem = subproblem;
      is_subproblem = c.subproblem_in.ensures;
      answer_is = named ∙ named_goes subproblem r.header n r.size r.low
          (later_of r) l ls c.in-Ok.is_named c.if-is_named.true
          (subst (λ (follows : Bool). IsFenceNamed subproblem follows l (Ok c.in-Ok.is_named)) c.may_follow.ensures
          c.in-Ok.ensures);
    }

pub returns-clause-answer : goal.returns-clause-answer
returns-clause-answer c = λ ls answer is.
    let r = c.args.running in
    let n = c.args.line.now.number in
    let l = line_of c.args.line.now in
    let subproblem = c.subproblem_in.result.now in
    let named = is ∙ ap (λ (ps : List Subproblem). sections_of r.header n (before r.size r.low ps) (l ∷ ls)) c.subproblem_in.ensures in
    c.at_begun.ensures.answer (l ∷ ls) ls answer
    (record {
      subproblem = subproblem;
      is_subproblem = c.subproblem_in.ensures;
      answer_is = named ∙ untitled_goes subproblem r.header n r.size r.low (later_of r)
          (l ∷ ls) l c.in-Ok.is_named c.if-is_named.false
          (subst (λ (follows : Bool). IsFenceNamed subproblem follows l (Ok c.in-Ok.is_named)) c.may_follow.ensures
          c.in-Ok.ensures);
    })
    refl
