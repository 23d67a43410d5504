-- The laws of the definition, applied to the verdict.
use Rattle.std.proofs.Common.{◌≡◌, List, ℕ, Result, Ok, Err, subst}
use Rattle.std.specs.Prelude.{IfOk}
use Rattle.text_core.specs.Lines.{lines_of}
use Rattle.tt_core.specs.Words.{Words, specification}
use Rattle.op_basis.specs.Basis.{members}
use Rattle.cert_theory.specs.declared.data.Verdict.{Verdict}
use Rattle.cert_theory.specs.declared.data.CertificateError.{CertificateError}
use Rattle.cert_theory.specs.Certificate.{Certificate}
use Rattle.cert_theory.specs.Meaning.{Means}
use Rattle.cert_theory.specs.Spelling.{IsCertificateText}
use Rattle.cert_theory.specs.Judging.{certificate_of}
use Rattle.cert_theory.specs.Gives.{Gives}
use Rattle.cert_laws.specs.CertificateSpellings.{verdict_spelled}
use Rattle.cert_file.specs.EndLaws.{spelled, accepted}
use Rattle.cert_theory.specs.Question.{HasQuestion}
use Rattle.cert_laws.specs.CertificatesAgain.{text_again}
use Rattle.cert_laws.specs.QuestionLaws.{certificate_asks, verdict_answers}
use Rattle.cert_laws.specs.Meanings.{verdict_true}
use Rattle.cert_file.proofs.checking.check_certificate.Goals as goal

verdict_is : (bytes : List ℕ) (v w : Verdict) → certificate_of (lines_of bytes) ≡ Ok v → certificate_of (lines_of bytes) ≡ Ok w → v ≡ w
verdict_is bytes v w one two = cc

true_verdict : (bytes : List ℕ) (r : Result Verdict CertificateError) →
    Gives (λ (v : Verdict). v) r (certificate_of (lines_of bytes)) →
    IfOk r (λ v. (b : Certificate) → IsCertificateText bytes b →
    Means (specification b.header.spec) (members b.header.basis) v)
true_verdict bytes (Ok v) gives = λ b is.
    subst (λ (w : Verdict). Means (specification b.header.spec) (members b.header.basis) w) (verdict_is bytes b.verdict v (text_again bytes b is) gives)
    (verdict_true b is.valid)
true_verdict bytes (Err e) gives = tt

kept : (bytes : List ℕ) (r : Result Verdict CertificateError) → Gives (λ (v : Verdict). v) r (certificate_of (lines_of bytes)) → IfOk r (λ v. (w : Words) × (basis : ℕ) × HasQuestion bytes w basis)
kept bytes (Ok v) gives =
    let has = verdict_spelled bytes v gives in
    (has.certificate.header.spec, has.certificate.header.basis, certificate_asks bytes has.certificate has.is_certificate)
kept bytes (Err e) gives = tt

answered : (bytes : List ℕ) (r : Result Verdict CertificateError) →
    Gives (λ (v : Verdict). v) r (certificate_of (lines_of bytes)) →
    IfOk r (λ v. (w : Words) (basis : ℕ) → HasQuestion bytes w basis → Means (specification w) (members basis) v)
answered bytes (Ok v) gives = λ w basis asks. verdict_answers bytes v w basis (verdict_spelled bytes v gives) asks
answered bytes (Err e) gives = tt

pub returns-clause-asks : goal.returns-clause-asks
returns-clause-asks c = kept c.args.bytes.now c.judge.result c.judge.ensures

pub returns-clause-answers : goal.returns-clause-answers
returns-clause-answers c = answered c.args.bytes.now c.judge.result c.judge.ensures

pub returns-clause-verdict : goal.returns-clause-verdict
returns-clause-verdict c = spelled c.args.bytes.now c.judge.result c.judge.ensures

pub returns-clause-accepted : goal.returns-clause-accepted
returns-clause-accepted c = λ b is. accepted c.args.bytes.now b c.judge.result is c.judge.ensures

pub returns-clause-means : goal.returns-clause-means
returns-clause-means c = true_verdict c.args.bytes.now c.judge.result c.judge.ensures
