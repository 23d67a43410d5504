use Rattle.cert_laws.specs.CertificateSpellings.{verdict_spelled}
use Rattle.cert_laws.specs.QuestionLaws.{certificate_asks, one_question, verdict_answers}
use Rattle.cert_laws.proofs.laws.verdicts_answer_their_texts.Goals as goal

pub returns-clause-asks : goal.returns-clause-asks
returns-clause-asks c = λ bytes v e.
    let has = verdict_spelled bytes v e in
    (has.certificate.header.spec, has.certificate.header.basis, certificate_asks bytes has.certificate has.is_certificate)

pub returns-clause-one : goal.returns-clause-one
returns-clause-one c = one_question

pub returns-clause-means : goal.returns-clause-means
returns-clause-means c = λ bytes v w basis e asks. verdict_answers bytes v w basis (verdict_spelled bytes v e) asks
