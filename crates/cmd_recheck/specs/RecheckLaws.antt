-- The task of `recheck` is well formed, and its runs keep the promise.
use Rattle.std.specs.Prelude.{◌≡◌, ℕ, ◌⊎◌, List, Result, Ok, Err}
use Rattle.std.proofs.Common.{◌∙◌, ap, refl, inl, inr}
use Rattle.std.proofs.Math.Logic.{⊎_elim}
use Rattle.text_core.specs.Lines.{lines_of}
use Rattle.cert_theory.specs.declared.data.Verdict.{Verdict}
use Rattle.cert_theory.specs.declared.data.CertificateError.{CertificateError}
use Rattle.cert_theory.specs.declared.data.CertificateError.TheVariants as certificates
use Rattle.cert_theory.specs.Certificate.{Certificate}
use Rattle.cert_theory.specs.Spelling.{IsCertificateText}
use Rattle.cert_theory.specs.Judging.{certificate_of}
use Rattle.cert_laws.specs.QuestionLaws.{certificate_asks, verdict_answers}
use Rattle.command_line.specs.declared.command.Command.TheVariants.{Recheck}
use Rattle.command_line.specs.CommandLine.{AsksFor}
use Rattle.frame_core.specs.declared.status.Status.TheVariants.{Malformed, Refused}
use Rattle.depth_theory.specs.Verdicts.{most_of_certificate, GivesVerdict}
use Rattle.cmd_recheck.specs.RecheckReport.{certificate_status, named_certificate, recheck_reply, recheck_refusal, HasCertificateFault, recheck_task}
use Rattle.frame_core.specs.Reported.{memory_refusal}
use Rattle.frame_core.specs.Task.{IsTask}
use Rattle.frame_core.specs.Run.{Run}
use Rattle.frame_core.specs.Promise.{Stands, CommandPromise}
use Rattle.cmd_recheck.specs.RecheckPromise.{ReportsVerdict, RecheckPromise}
use Rattle.cmd_recheck.specs.RechecksLaws.{IsFaultRefusal, fault_status, IsRechecking, rechecks}
use Rattle.frame_core.specs.TaskLaws.{at_once_task}

-- ---- `recheck` is a command

-- every fault but running out of memory is `Malformed` or `Refused`
pub status_kind : (e : CertificateError) → ((certificate_status e ≡ Malformed) ⊎ (certificate_status e ≡ Refused)) ⊎ (e ≡ certificates.Memory)
status_kind (certificates.Syntax line) = inl (inl refl)
status_kind (certificates.SizeOutOfOrder line) = inl (inr refl)
status_kind (certificates.StepRefused line e) = inl (inr refl)
status_kind (certificates.NotRefuted line) = inl (inr refl)
status_kind (certificates.ChainDiffers output row) = inl (inr refl)
status_kind (certificates.OperatorNotInBasis place) = inl (inr refl)
status_kind (certificates.OpenTooShort line) = inl (inr refl)
status_kind (certificates.NotNew line) = inl (inr refl)
status_kind (certificates.WrongVerdict line) = inl (inr refl)
status_kind certificates.Memory = inr refl

of_memory : recheck_refusal certificates.Memory ≡ memory_refusal
unfolding named_certificate
of_memory = refl

pub faults : (e : CertificateError) → IsFaultRefusal (recheck_refusal e)
faults e =
    ⊎_elim
    (λ (is : (certificate_status e ≡ Malformed) ⊎ (certificate_status e ≡ Refused)). inl is)
    (λ (is : e ≡ certificates.Memory). inr (ap recheck_refusal is ∙ of_memory))
    (status_kind e)

pub not_both : {A : Type 0} (read : Result Verdict CertificateError) (v : Verdict) (e : CertificateError) → read ≡ Ok v → read ≡ Err e → A
not_both read v e is other = absurd cc

pub one_error : (read : Result Verdict CertificateError) (d e : CertificateError) → read ≡ Err d → read ≡ Err e → d ≡ e
one_error read d e is other = cc

pub recheck_is_task : IsTask recheck_task
recheck_is_task =
    at_once_task most_of_certificate Verdict GivesVerdict recheck_reply CertificateError HasCertificateFault recheck_refusal
    (λ verdict. inl refl)
    (λ bytes fault meets. fault_status (recheck_refusal fault) (faults fault))
    (λ bytes verdict error gives fault. not_both (certificate_of (lines_of bytes)) verdict error gives.read fault.fault)
    (λ bytes a b x y. ap recheck_refusal (one_error (certificate_of (lines_of bytes)) a b x.fault y.fault))
    (λ bytes verdict gives. gives.within)
    (λ bytes error fault. fault.within)

-- ---- its promise

-- A text with a verdict spells tables and a basis, and the verdict is true for them.
reports_verdict : (r : Run) (input : List ℕ) (verdict : Verdict) → GivesVerdict input verdict → Stands r (recheck_reply verdict) → ReportsVerdict r input
reports_verdict r input verdict gives stands =
    let b : Certificate = gives.is_verdict.has.certificate in
    record {
      verdict = verdict;
      has = gives;
      stands = stands;
      asks = (b.header.spec, b.header.basis, certificate_asks input b gives.is_verdict.has.is_certificate);
      means = λ tables basis has_question. verdict_answers input verdict tables basis gives.is_verdict.has has_question;
    }

is_rechecking : IsRechecking recheck_task IsCertificateText (λ (b : Certificate). b.verdict) ReportsVerdict
is_rechecking = record {
  reads = refl;
  done = λ verdict. refl;
  faultless = λ verdict. refl;
  faults = faults;
  sound = λ input b error is fault. fault.none b is;
  only = λ input b verdict is gives. gives.is_verdict.only b is;
  reports = reports_verdict;
}

-- The promise of `recheck`.
pub recheck_promised : (r : Run) → (AsksFor r.words Recheck → CommandPromise recheck_task r) → RecheckPromise r
recheck_promised = rechecks Recheck recheck_task IsCertificateText (λ (b : Certificate). b.verdict) ReportsVerdict is_rechecking
