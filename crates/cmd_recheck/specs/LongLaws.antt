-- The tasks of `recheck --most-bytes N` are well formed.
use Rattle.std.specs.Prelude.{ℕ, Err}
use Rattle.std.proofs.Common.{ap, refl, inl}
use Rattle.text_core.specs.Lines.{lines_of}
use Rattle.cert_theory.specs.declared.data.Verdict.{Verdict}
use Rattle.cert_theory.specs.declared.data.CertificateError.{CertificateError}
use Rattle.cert_theory.specs.Judging.{certificate_of}
use Rattle.depth_theory.specs.declared.data.DepthVerdict.{DepthVerdict}
use Rattle.depth_theory.specs.declared.data.DepthError.{DepthError}
use Rattle.depth_file.specs.AnswerLaws.{one_answer}
use Rattle.frame_core.specs.Task.{IsTask}
use Rattle.frame_core.specs.TaskLaws.{at_once_task}
use Rattle.cmd_recheck.specs.RecheckReport.{recheck_reply, recheck_refusal}
use Rattle.cmd_recheck.specs.RecheckDepthReport.{depth_reply, depth_refusal}
use Rattle.cmd_recheck.specs.RechecksLaws.{fault_status}
use Rattle.cmd_recheck.specs.RecheckLaws.{faults, not_both, one_error}
use Rattle.cmd_recheck.specs.RecheckDepthLaws as depths
use Rattle.cmd_recheck.specs.LongReport.{GivesLongVerdict, HasLongFault, long_task, GivesLongLevels, HasLongDepthFault, long_depth_task}

pub long_is_task : (most : ℕ) → IsTask (long_task most)
long_is_task most =
    at_once_task most Verdict (GivesLongVerdict most) recheck_reply CertificateError (HasLongFault most) recheck_refusal
    (λ verdict. inl refl)
    (λ bytes fault meets. fault_status (recheck_refusal fault) (faults fault))
    (λ bytes verdict error gives fault. not_both (certificate_of (lines_of bytes)) verdict error gives.read fault.fault)
    (λ bytes a b x y. ap recheck_refusal (one_error (certificate_of (lines_of bytes)) a b x.fault y.fault))
    (λ bytes verdict gives. gives.within)
    (λ bytes error fault. fault.within)

pub long_depth_is_task : (most : ℕ) → IsTask (long_depth_task most)
long_depth_is_task most =
    at_once_task most DepthVerdict (GivesLongLevels most) depth_reply DepthError (HasLongDepthFault most) depth_refusal
    (λ verdict. inl refl)
    (λ bytes fault meets. fault_status (depth_refusal fault) (depths.faults fault))
    (λ bytes verdict error gives fault. fault.none gives.has.certificate gives.has.is_text)
    (λ bytes a b x y. ap depth_refusal (depths.one_fault (Err a) a b refl (one_answer (lines_of bytes) (Err a) (Err b) x.fault y.fault)))
    (λ bytes verdict gives. gives.within)
    (λ bytes error fault. fault.within)
