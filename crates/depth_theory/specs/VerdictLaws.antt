-- A text that is judged to have a verdict is the spelling of a certificate with it.
use Rattle.std.specs.Prelude.{◌≡◌, ℕ, List, Result, Ok}
use Rattle.std.proofs.Common.{subst}
use Rattle.text_core.specs.Lines.{lines_of}
use Rattle.tt_core.specs.Words.{specification}
use Rattle.op_basis.specs.Basis.{members}
use Rattle.cert_theory.specs.declared.data.Verdict.{Verdict}
use Rattle.cert_theory.specs.declared.data.CertificateError.{CertificateError}
use Rattle.cert_theory.specs.Certificate.{Certificate}
use Rattle.cert_theory.specs.Meaning.{Means}
use Rattle.cert_theory.specs.Spelling.{IsCertificateText}
use Rattle.cert_theory.specs.Judging.{certificate_of}
use Rattle.cert_laws.specs.CertificateSpellings.{verdict_spelled}
use Rattle.cert_laws.specs.CertificatesAgain.{text_again}
use Rattle.cert_laws.specs.Meanings.{verdict_true}
use Rattle.depth_theory.specs.Verdicts.{IsVerdict}

same_verdict : (read : Result Verdict CertificateError) (v w : Verdict) → read ≡ Ok v → read ≡ Ok w → w ≡ v
same_verdict read v w is other = cc

pub is_verdict : (bytes : List ℕ) (v : Verdict) → certificate_of (lines_of bytes) ≡ Ok v → IsVerdict bytes v
is_verdict bytes v read =
    let only : (b : Certificate) → IsCertificateText bytes b → b.verdict ≡ v = λ b is. same_verdict (certificate_of (lines_of bytes)) v b.verdict read (text_again bytes b is) in
    record {
      has = verdict_spelled bytes v read;
      only = only;
      means = λ b is. subst (λ (w : Verdict). Means (specification b.header.spec) (members b.header.basis) w) (only b is) (verdict_true b is.valid);
    }
