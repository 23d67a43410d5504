-- The task of `recheck --depth yes` is well formed, and its runs keep the promise.
use Rattle.std.specs.Prelude.{◌≡◌, ℕ, ◌⊎◌, List, length, Err}
use Rattle.std.proofs.Common.{◌∙◌, ap, refl, inl, inr}
use Rattle.std.proofs.Math.Logic.{⊎_elim}
use Rattle.text_core.specs.Lines.{lines_of}
use Rattle.cert_theory.specs.declared.data.CertificateError.{CertificateError}
use Rattle.cert_theory.specs.declared.data.CertificateError.TheVariants as certificates
use Rattle.depth_theory.specs.declared.data.DepthVerdict.{DepthVerdict}
use Rattle.depth_theory.specs.declared.data.DepthError.{DepthError}
use Rattle.depth_theory.specs.declared.data.DepthError.TheVariants as depths
use Rattle.depth_theory.specs.DepthCertificate.{DepthCertificate}
use Rattle.depth_theory.specs.DepthJudging.{Answer}
use Rattle.depth_theory.specs.DepthSpelling.{IsDepthText}
use Rattle.command_line.specs.declared.command.Command.TheVariants.{RecheckDepth}
use Rattle.command_line.specs.CommandLine.{AsksFor}
use Rattle.frame_core.specs.declared.status.Status.TheVariants.{Malformed, Refused}
use Rattle.frame_core.specs.Reported.{memory_refusal}
use Rattle.frame_core.specs.Task.{IsTask}
use Rattle.frame_core.specs.Run.{Run}
use Rattle.frame_core.specs.Promise.{Stands, CommandPromise}
use Rattle.frame_core.specs.TaskLaws.{at_once_task}
use Rattle.depth_file.specs.BudgetLaws.{log_reaches_budget}
use Rattle.depth_theory.specs.Verdicts.{most_of_certificate, GivesLevels}
use Rattle.cmd_recheck.specs.RecheckReport.{certificate_status}
use Rattle.cmd_recheck.specs.RecheckDepthReport.{named_depth, depth_reply, depth_refusal, HasDepthFault, depth_task}
use Rattle.cmd_recheck.specs.RecheckDepthPromise.{ReportsLevels, RecheckDepthPromise}
use Rattle.cmd_recheck.specs.RechecksLaws.{IsFaultRefusal, fault_status, IsRechecking, rechecks}
use Rattle.depth_file.specs.AnswerLaws.{one_answer}
use Rattle.cmd_recheck.specs.RecheckLaws.{status_kind}
use Rattle.cmd_recheck.specs.QuestionLaws.{depth_asks, levels_answer}

pub one_fault : (answer : Answer) (d e : DepthError) → answer ≡ Err d → answer ≡ Err e → d ≡ e
one_fault answer d e is other = cc

-- ---- `recheck --depth yes` is a command

of_memory : depth_refusal (depths.Certificate certificates.Memory) ≡ memory_refusal
unfolding named_depth
of_memory = refl

of_inside : (e : CertificateError) → IsFaultRefusal (depth_refusal (depths.Certificate e))
of_inside e =
    ⊎_elim
    (λ (is : (certificate_status e ≡ Malformed) ⊎ (certificate_status e ≡ Refused)). inl is)
    (λ (is : e ≡ certificates.Memory). inr (ap (λ (x : CertificateError). depth_refusal (depths.Certificate x)) is ∙ of_memory))
    (status_kind e)

pub faults : (e : DepthError) → IsFaultRefusal (depth_refusal e)
unfolding named_depth
faults (depths.Certificate e) = of_inside e
faults depths.NotLeastForm = inl (inr refl)
faults (depths.Syntax line) = inl (inl refl)
faults (depths.WrongDepth line) = inl (inr refl)
faults (depths.StepRefused line e) = inl (inr refl)
faults (depths.NotNew line) = inl (inr refl)
faults (depths.NotRefuted line) = inl (inr refl)
faults (depths.OpenTooShort line) = inl (inr refl)
faults (depths.WrongLevels line) = inl (inr refl)
faults depths.Memory = inr refl

pub depth_is_task : IsTask depth_task
depth_is_task =
    at_once_task most_of_certificate DepthVerdict GivesLevels depth_reply DepthError HasDepthFault depth_refusal
    (λ verdict. inl refl)
    (λ bytes fault meets. fault_status (depth_refusal fault) (faults fault))
    (λ bytes verdict error gives fault. fault.none gives.has.certificate gives.has.is_text)
    (λ bytes a b x y. ap depth_refusal (one_fault (Err a) a b refl (one_answer (lines_of bytes) (Err a) (Err b) x.fault y.fault)))
    (λ bytes verdict gives. gives.within)
    (λ bytes error fault. fault.within)

-- ---- its promise

-- A text with a verdict spells tables and a basis, and the verdict is true for them.
reports_levels : (r : Run) (input : List ℕ) (verdict : DepthVerdict) → GivesLevels input verdict → Stands r (depth_reply verdict) → ReportsLevels r input
reports_levels r input verdict gives stands =
    let b : DepthCertificate = gives.has.certificate in
    let is : IsDepthText input b = gives.has.is_text in
    record {
      verdict = verdict;
      has = gives;
      stands = stands;
      asks = (b.certificate.header.spec, b.certificate.header.basis, depth_asks input b is);
      steps = length is.is_depth.chain.steps;
      means = λ tables basis has_question. levels_answer input b verdict (length is.is_depth.chain.steps) tables basis is (gives.means b is) has_question;
      spent = λ low d bounded. log_reaches_budget input b low d is (gives.has.verdict ∙ bounded);
    }

is_rechecking : IsRechecking depth_task IsDepthText (λ (b : DepthCertificate). b.verdict) ReportsLevels
is_rechecking = record {
  reads = refl;
  done = λ verdict. refl;
  faultless = λ verdict. refl;
  faults = faults;
  sound = λ input b error is fault. fault.none b is;
  only = λ input b verdict is gives. gives.only b is;
  reports = reports_levels;
}

-- The promise of `recheck --depth yes`.
pub depth_promised : (r : Run) → (AsksFor r.words RecheckDepth → CommandPromise depth_task r) → RecheckDepthPromise r
depth_promised = rechecks RecheckDepth depth_task IsDepthText (λ (b : DepthCertificate). b.verdict) ReportsLevels is_rechecking
