use Rattle.cert_laws.specs.CertificateSpellings.{verdict_spelled}
use Rattle.cert_laws.specs.CertificatesAgain.{text_again}
use Rattle.cert_laws.proofs.laws.verdicts_are_spelled.Goals as goal

pub returns-clause-only : goal.returns-clause-only
returns-clause-only c = verdict_spelled

pub returns-clause-each : goal.returns-clause-each
returns-clause-each c = text_again
