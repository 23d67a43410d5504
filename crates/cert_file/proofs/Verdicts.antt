-- What is returned for a text without a fault.
use Rattle.std.proofs.Common.{◌<◌, List, ℕ, Result, Ok, Err}
use Rattle.std.specs.Prelude.{IfOk}
use Rattle.text_core.specs.Lines.{lines_of}
use Rattle.cert_theory.specs.declared.data.CertificateError.{CertificateError}
use Rattle.cert_theory.specs.Certificate.{Certificate}
use Rattle.cert_theory.specs.Spelling.{IsCertificateText}
use Rattle.cert_theory.specs.Judging.{certificate_of}
use Rattle.cert_theory.specs.Gives.{Gives}
use Rattle.cert_file.specs.Stages.{IsKnown}
use Rattle.cert_file.specs.Claims.{HasClaim, IsClaim}
use Rattle.cert_file.specs.declared.claim.Claim.{Claim}
use Rattle.cert_file.specs.ClaimLaws.{claim_is}

pub claim_given : (bytes : List ℕ) (b : Certificate) (r : Result Claim CertificateError) → IsCertificateText bytes b →
    Gives (λ (t : Claim). t.verdict) r (certificate_of (lines_of bytes)) → IfOk r (λ t. HasClaim t (lines_of bytes)) →
    IfOk r (λ t. IsClaim b t)
claim_given bytes b (Ok t) is gives claim = claim_is bytes b t gives is claim
claim_given bytes b (Err e) is gives claim = tt

pub operators_given : (r : Result Claim CertificateError) → IfOk r (λ t. IsKnown t.header) → IfOk r (λ t. 0 < t.header.basis)
operators_given (Ok t) known = known.basis
operators_given (Err e) known = tt
