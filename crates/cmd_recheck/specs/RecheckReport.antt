-- The task of `recheck`: the reply for each verdict, and the refusal for each fault.
use Rattle.std.specs.Prelude.{◌≡◌, ℕ, ◌≤◌, List, [], ◌∷◌, ◌++◌, length, None, codes, Err}
use Rattle.text_core.specs.Lines.{lines_of}
use Rattle.lrat_check.specs.declared.error.CheckError.{CheckError}
use Rattle.lrat_check.specs.declared.error.CheckError.TheVariants as steps
use Rattle.cert_theory.specs.declared.data.Verdict.{Verdict}
use Rattle.cert_theory.specs.declared.data.CertificateError.{CertificateError}
use Rattle.cert_theory.specs.declared.data.CertificateError.TheVariants as certificates
use Rattle.cert_theory.specs.Certificate.{Certificate}
use Rattle.cert_theory.specs.Spelling.{verdict_line, IsCertificateText}
use Rattle.cert_theory.specs.Judging.{certificate_of}
use Rattle.frame_core.specs.declared.status.Status.{Status}
use Rattle.frame_core.specs.declared.status.Status.TheVariants.{Done, Malformed, Memory, Refused}
use Rattle.frame_core.specs.Reported.{Reply, Field, Word, Number, Refusal, at, memory}
use Rattle.frame_core.specs.Task.{Task, at_once}
use Rattle.depth_theory.specs.Verdicts.{most_of_certificate, GivesVerdict}

-- the output: the verdict line
unfoldable pub verdict_text : Verdict → List ℕ
verdict_text verdict = verdict_line verdict ++ codes "\n"

-- A text that isn't of the form of a certificate is `Malformed`; one of that form that isn't valid is `Refused`.
abbrev pub certificate_status : CertificateError → Status
certificate_status (certificates.Syntax line) = Malformed
certificate_status (certificates.SizeOutOfOrder line) = Refused
certificate_status (certificates.StepRefused line e) = Refused
certificate_status (certificates.NotRefuted line) = Refused
certificate_status (certificates.ChainDiffers output row) = Refused
certificate_status (certificates.OperatorNotInBasis place) = Refused
certificate_status (certificates.OpenTooShort line) = Refused
certificate_status (certificates.NotNew line) = Refused
certificate_status (certificates.WrongVerdict line) = Refused
certificate_status certificates.Memory = Memory

-- a refused log line: its number, the name of its fault, and the id or variable of the fault
abbrev pub refused_step : ℕ → List ℕ → List Field → List Field
refused_step line word of = Word (codes "StepRefused") ∷ Number line ∷ Word word ∷ of

-- a variant with two numbers
abbrev pub two_of : List ℕ → ℕ → ℕ → List Field
two_of name number last = Word name ∷ Number number ∷ Number last ∷ []

unfoldable pub named_step : ℕ → CheckError → List Field
named_step line (steps.UnknownId id) = refused_step line (codes "UnknownId") (Number id ∷ [])
named_step line (steps.NotUnit id) = refused_step line (codes "NotUnit") (Number id ∷ [])
named_step line steps.NoConflict = refused_step line (codes "NoConflict") []
named_step line (steps.UnknownDelete id) = refused_step line (codes "UnknownDelete") (Number id ∷ [])
named_step line (steps.IdNotGreater id) = refused_step line (codes "IdNotGreater") (Number id ∷ [])
named_step line (steps.UnknownVariable variable) = refused_step line (codes "UnknownVariable") (Number variable ∷ [])
named_step line steps.Memory = refused_step line (codes "Memory") []

unfoldable pub named_certificate : CertificateError → List Field
named_certificate (certificates.Syntax line) = at (codes "Syntax") line
named_certificate (certificates.SizeOutOfOrder line) = at (codes "SizeOutOfOrder") line
named_certificate (certificates.StepRefused line e) = named_step line e
named_certificate (certificates.NotRefuted line) = at (codes "NotRefuted") line
named_certificate (certificates.ChainDiffers output row) = two_of (codes "ChainDiffers") output row
named_certificate (certificates.OperatorNotInBasis place) = at (codes "OperatorNotInBasis") place
named_certificate (certificates.OpenTooShort line) = at (codes "OpenTooShort") line
named_certificate (certificates.NotNew line) = at (codes "NotNew") line
named_certificate (certificates.WrongVerdict line) = at (codes "WrongVerdict") line
named_certificate certificates.Memory = memory

-- a verdict as a reply, and an error as a refusal
abbrev pub recheck_reply : Verdict → Reply
recheck_reply verdict = record { text = verdict_text verdict; report = None; status = Done }

abbrev pub recheck_refusal : CertificateError → Refusal
recheck_refusal error = record { status = certificate_status error; named = named_certificate error }

-- The bytes aren't the spelling of a valid certificate, and this is their first fault.
pub record HasCertificateFault (bytes : List ℕ) (error : CertificateError) : Type 0 where
  pub within : length bytes ≤ most_of_certificate
  pub none : (b : Certificate) → IsCertificateText bytes b → ⊥
  pub fault : certificate_of (lines_of bytes) ≡ Err error

abbrev pub recheck_task : Task
recheck_task = at_once most_of_certificate Verdict GivesVerdict recheck_reply CertificateError HasCertificateFault
    recheck_refusal
