-- The verdicts of certificates, as `recheck` reports them.
use Rattle.std.specs.Prelude.{◌≡◌, ℕ, ◌≤◌, List, length, Ok}
use Rattle.text_core.specs.Lines.{lines_of}
use Rattle.tt_core.specs.Words.{specification}
use Rattle.op_basis.specs.Basis.{members}
use Rattle.depth_theory.specs.declared.data.DepthVerdict.{DepthVerdict}
use Rattle.depth_theory.specs.DepthCertificate.{DepthCertificate}
use Rattle.depth_theory.specs.DepthSpelling.{IsDepthText, HasDepth}
use Rattle.depth_theory.specs.DepthMeaning as depths
use Rattle.cert_theory.specs.declared.data.Verdict.{Verdict}
use Rattle.cert_theory.specs.Certificate.{Certificate}
use Rattle.cert_theory.specs.Meaning.{Means}
use Rattle.cert_theory.specs.Spelling.{IsCertificateText, HasVerdict}
use Rattle.cert_theory.specs.Judging.{certificate_of}

-- the most bytes of a certificate that are read
abbrev pub most_of_certificate : ℕ
most_of_certificate = 268435456

-- The bytes are the spelling of a valid certificate with this verdict and no other, and the verdict is true.
pub record IsVerdict (bytes : List ℕ) (verdict : Verdict) : Type 0 where
  pub has : HasVerdict bytes verdict
  pub only : (b : Certificate) → IsCertificateText bytes b → b.verdict ≡ verdict
  pub means : (b : Certificate) → IsCertificateText bytes b →
      Means (specification b.header.spec) (members b.header.basis) verdict

-- The bytes, no more than are read, are judged to have this verdict.
pub record GivesVerdict (bytes : List ℕ) (verdict : Verdict) : Type 0 where
  pub within : length bytes ≤ most_of_certificate
  pub read : certificate_of (lines_of bytes) ≡ Ok verdict
  pub is_verdict : IsVerdict bytes verdict

-- The bytes, no more than are read, are the spelling of a depth certificate with this verdict and no other, and
-- the verdict is true.
pub record GivesLevels (bytes : List ℕ) (verdict : DepthVerdict) : Type 0 where
  pub within : length bytes ≤ most_of_certificate
  pub has : HasDepth bytes verdict
  pub only : (b : DepthCertificate) → IsDepthText bytes b → b.verdict ≡ verdict
  pub means : (b : DepthCertificate) (is : IsDepthText bytes b)
      → depths.Means (specification b.certificate.header.spec) (members b.certificate.header.basis)
      (length is.is_depth.chain.steps) verdict
