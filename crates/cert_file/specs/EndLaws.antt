-- A result as in the definition has the verdicts of valid certificates.
use Rattle.std.specs.Prelude.{List, ℕ, Result, Ok, Err, IfOk}
use Rattle.std.proofs.Common.{subst}
use Rattle.text_core.specs.Lines.{lines_of}
use Rattle.cert_theory.specs.declared.data.Verdict.{Verdict}
use Rattle.cert_theory.specs.declared.data.CertificateError.{CertificateError}
use Rattle.cert_theory.specs.Certificate.{Certificate}
use Rattle.cert_theory.specs.Spelling.{IsCertificateText, HasVerdict}
use Rattle.cert_theory.specs.Judging.{certificate_of}
use Rattle.cert_theory.specs.Gives.{Gives}
use Rattle.cert_laws.specs.CertificateSpellings.{verdict_spelled}
use Rattle.cert_laws.specs.CertificatesAgain.{text_again}
use Rattle.cert_file.specs.StageAnswers.{Ends}

pub spelled : (bytes : List ℕ) (r : Result Verdict CertificateError) → Gives (λ (v : Verdict). v) r (certificate_of (lines_of bytes)) → IfOk r (λ v. HasVerdict bytes v)
spelled bytes (Ok v) gives = verdict_spelled bytes v gives
spelled bytes (Err e) gives = tt

pub accepted : (bytes : List ℕ) (b : Certificate) (r : Result Verdict CertificateError) → IsCertificateText bytes b →
    Gives (λ (v : Verdict). v) r (certificate_of (lines_of bytes)) → Gives (λ (v : Verdict). v) r (Ok b.verdict)
accepted bytes b r is gives = subst (λ (read : Result Verdict CertificateError). Gives (λ (v : Verdict). v) r read) (text_again bytes b is) gives

pub ended : (bytes : List ℕ) (r : Result Verdict CertificateError) → Gives (λ (v : Verdict). v) r (certificate_of (lines_of bytes)) → Ends r bytes
ended bytes r gives = record { exact = gives; verdict = spelled bytes r gives; accepted = λ b is. accepted bytes b r is gives }
