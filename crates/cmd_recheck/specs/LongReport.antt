-- The tasks of `recheck --most-bytes N`: as those of `recheck`, over certificates of at most N bytes.
use Rattle.std.specs.Prelude.{◌≡◌, ℕ, ◌≤◌, List, length, Ok, Err}
use Rattle.text_core.specs.Lines.{lines_of}
use Rattle.tt_core.specs.Words.{specification}
use Rattle.op_basis.specs.Basis.{members}
use Rattle.cert_theory.specs.declared.data.Verdict.{Verdict}
use Rattle.cert_theory.specs.declared.data.CertificateError.{CertificateError}
use Rattle.cert_theory.specs.Certificate.{Certificate}
use Rattle.cert_theory.specs.Spelling.{IsCertificateText}
use Rattle.cert_theory.specs.Judging.{certificate_of}
use Rattle.depth_theory.specs.declared.data.DepthVerdict.{DepthVerdict}
use Rattle.depth_theory.specs.declared.data.DepthError.{DepthError}
use Rattle.depth_theory.specs.DepthCertificate.{DepthCertificate}
use Rattle.depth_theory.specs.DepthJudging.{IsJudged}
use Rattle.depth_theory.specs.DepthMeaning.{Means}
use Rattle.depth_theory.specs.DepthSpelling.{IsDepthText, HasDepth}
use Rattle.depth_theory.specs.Verdicts.{IsVerdict}
use Rattle.frame_core.specs.Task.{Task, at_once}
use Rattle.cmd_recheck.specs.RecheckReport.{recheck_reply, recheck_refusal}
use Rattle.cmd_recheck.specs.RecheckDepthReport.{depth_reply, depth_refusal}

-- ---- the fewest steps

-- The bytes, at most `most`, are the spelling of a valid certificate with this verdict and no other, and the verdict is
-- true.
pub record GivesLongVerdict (most : ℕ) (bytes : List ℕ) (verdict : Verdict) : Type 0 where
  pub within : length bytes ≤ most
  pub read : certificate_of (lines_of bytes) ≡ Ok verdict
  pub is_verdict : IsVerdict bytes verdict

-- They aren't the spelling of a valid certificate, and this is their first fault.
pub record HasLongFault (most : ℕ) (bytes : List ℕ) (error : CertificateError) : Type 0 where
  pub within : length bytes ≤ most
  pub none : (b : Certificate) → IsCertificateText bytes b → ⊥
  pub fault : certificate_of (lines_of bytes) ≡ Err error

abbrev pub long_task : ℕ → Task
long_task most = at_once most Verdict (GivesLongVerdict most) recheck_reply CertificateError (HasLongFault most)
    recheck_refusal

-- ---- the fewest levels

-- The bytes, at most `most`, are the spelling of a depth certificate with this verdict and no other, and the verdict is
-- true.
pub record GivesLongLevels (most : ℕ) (bytes : List ℕ) (verdict : DepthVerdict) : Type 0 where
  pub within : length bytes ≤ most
  pub has : HasDepth bytes verdict
  pub only : (b : DepthCertificate) → IsDepthText bytes b → b.verdict ≡ verdict
  pub means : (b : DepthCertificate) (is : IsDepthText bytes b)
      → Means (specification b.certificate.header.spec) (members b.certificate.header.basis)
      (length is.is_depth.chain.steps) verdict

-- They aren't the spelling of a valid depth certificate, and this is their first fault.
pub record HasLongDepthFault (most : ℕ) (bytes : List ℕ) (error : DepthError) : Type 0 where
  pub within : length bytes ≤ most
  pub none : (b : DepthCertificate) → IsDepthText bytes b → ⊥
  pub fault : IsJudged (lines_of bytes) (Err error)

abbrev pub long_depth_task : ℕ → Task
long_depth_task most = at_once most DepthVerdict (GivesLongLevels most) depth_reply DepthError (HasLongDepthFault most)
    depth_refusal
