-- The result of `recheck` for an input.
use Rattle.std.specs.Prelude.{◌≡◌, ℕ, ◌≤◌, List, length, None, Result, Ok, Err, Vec, IfOk}
use Rattle.std.specs.Global.{Global}
use Rattle.std.proofs.Common.{refl, ap}
use Rattle.text_core.specs.Lines.{lines_of}
use Rattle.cert_theory.specs.declared.data.Verdict.{Verdict}
use Rattle.cert_theory.specs.declared.data.CertificateError.{CertificateError}
use Rattle.cert_theory.specs.declared.data.CertificateError.TheVariants as certificates
use Rattle.cert_theory.specs.Judging.{certificate_of}
use Rattle.cert_theory.specs.Gives.{Fails}
use Rattle.cert_laws.specs.CertificatesAgain.{text_again}
use Rattle.depth_theory.specs.Verdicts.{most_of_certificate}
use Rattle.cert_file.specs.StageAnswers.{Ends}
use Rattle.frame_core.specs.declared.status.Status.TheVariants.{Done}
use Rattle.cmd_recheck.specs.RecheckReport.{verdict_text, recheck_reply, recheck_refusal, recheck_task}
use Rattle.frame_core.specs.Reported.{Reply, Refusal}
use Rattle.frame_core.specs.Task.{HasReply, Refuses}
use Rattle.depth_theory.specs.VerdictLaws.{is_verdict}

-- ---- the result of judging a certificate

pub no_verdict : (read : Result Verdict CertificateError) (e : CertificateError) (w : Verdict) → read ≡ Err e → read ≡ Ok w → ⊥
no_verdict read e w is other = cc

pub reported_fault : (e : CertificateError) (read : Result Verdict CertificateError) → Fails e read → (e ≡ certificates.Memory → ⊥) → read ≡ Err e
reported_fault (certificates.Syntax line) read fails other = fails
reported_fault (certificates.SizeOutOfOrder line) read fails other = fails
reported_fault (certificates.StepRefused line e) read fails other = fails
reported_fault (certificates.NotRefuted line) read fails other = fails
reported_fault (certificates.ChainDiffers output row) read fails other = fails
reported_fault (certificates.OperatorNotInBasis place) read fails other = fails
reported_fault (certificates.OpenTooShort line) read fails other = fails
reported_fault (certificates.NotNew line) read fails other = fails
reported_fault (certificates.WrongVerdict line) read fails other = fails
reported_fault certificates.Memory read fails other = absurd (other refl)

-- The result is a verdict of the bytes, or a fault.
pub reports : (bytes : List ℕ) (v : Verdict) (reply : Reply) → length bytes ≤ most_of_certificate → certificate_of (lines_of bytes) ≡ Ok v → reply ≡ recheck_reply v → HasReply recheck_task bytes reply
reports bytes v reply within read is = record { answer = v; has = record { within = within; read = read; is_verdict = is_verdict bytes v read }; is = is }

refuses : (bytes : List ℕ) (e : CertificateError) (refusal : Refusal) → length bytes ≤ most_of_certificate →
    certificate_of (lines_of bytes) ≡ Err e → refusal ≡ recheck_refusal e → Refuses recheck_task bytes refusal
refuses bytes e refusal within read is = record {
  fault = e;
  meets = record { within = within; none = λ b is. no_verdict (certificate_of (lines_of bytes)) e b.verdict read (text_again bytes b is); fault = read };
  is = is;
}

pub stops : (bytes : List ℕ) (e : CertificateError) (refusal : Refusal) → length bytes ≤ most_of_certificate →
    (e ≡ certificates.Memory → ⊥) → Fails e (certificate_of (lines_of bytes)) → refusal ≡ recheck_refusal e →
    Refuses recheck_task bytes refusal
stops bytes e refusal within other fails is = refuses bytes e refusal within (reported_fault e (certificate_of (lines_of bytes)) fails other) is

-- the text of a verdict, as a reply
pub reports_text : {E : Type 0} (bytes : List ℕ) (v : Verdict) (text : Result (Vec ℕ Global) E) →
    length bytes ≤ most_of_certificate → Ends (Ok v) bytes → IfOk text (λ t. t.items ≡ verdict_text v) →
    IfOk text (λ t. HasReply recheck_task bytes (record { text = t.items; report = None; status = Done }))
reports_text {E} bytes v (Ok t) within ends is =
    reports bytes v (record { text = t.items; report = None; status = Done }) within ends.exact
    (ap (λ (xs : List ℕ). let r : Reply = record { text = xs; report = None; status = Done } in r) is)
reports_text {E} bytes v (Err e) within ends is = tt
