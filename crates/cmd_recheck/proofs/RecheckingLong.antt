-- The result of `recheck --most-bytes N` for an input.
use Rattle.std.specs.Prelude.{◌≡◌, ℕ, ◌≤◌, List, length, None, Result, Ok, Err, Vec, IfOk}
use Rattle.std.specs.Global.{Global}
use Rattle.std.proofs.Common.{refl, ap}
use Rattle.text_core.specs.Lines.{lines_of}
use Rattle.cert_theory.specs.declared.data.Verdict.{Verdict}
use Rattle.cert_theory.specs.declared.data.CertificateError.{CertificateError}
use Rattle.cert_theory.specs.declared.data.CertificateError.TheVariants as certificates
use Rattle.cert_theory.specs.Judging.{certificate_of}
use Rattle.cert_theory.specs.Gives.{Fails}
use Rattle.cert_laws.specs.CertificatesAgain.{text_again}
use Rattle.cert_file.specs.StageAnswers as steps
use Rattle.depth_theory.specs.declared.data.DepthVerdict.{DepthVerdict}
use Rattle.depth_theory.specs.declared.data.DepthError.{DepthError}
use Rattle.depth_theory.specs.declared.data.DepthError.TheVariants as depths
use Rattle.depth_theory.specs.VerdictLaws.{is_verdict}
use Rattle.depth_theory.specs.DepthGives.{Gives}
use Rattle.depth_theory.specs.DepthJudging.{Judged}
use Rattle.depth_file.specs.StageAnswers as levels
use Rattle.frame_core.specs.declared.status.Status.TheVariants.{Done}
use Rattle.frame_core.specs.Reported.{Reply, Refusal}
use Rattle.frame_core.specs.Task.{HasReply, Refuses}
use Rattle.cmd_recheck.specs.RecheckReport.{verdict_text, recheck_refusal}
use Rattle.cmd_recheck.specs.RecheckDepthReport.{levels_text, depth_refusal}
use Rattle.cmd_recheck.specs.LongReport.{long_task, long_depth_task}
use Rattle.cmd_recheck.proofs.Rechecking.{no_verdict, reported_fault}
use Rattle.cmd_recheck.proofs.RecheckingDepth.{judged_fault, no_certificate, one_verdict}

-- a text as a reply
abbrev reply_with : List ℕ → Reply
reply_with text = record { text = text; report = None; status = Done }

-- ---- the fewest steps

pub reports_text : {E : Type 0} (most : ℕ) (bytes : List ℕ) (v : Verdict) (text : Result (Vec ℕ Global) E) →
    length bytes ≤ most → steps.Ends (Ok v) bytes → IfOk text (λ t. t.items ≡ verdict_text v) →
    IfOk text (λ t. HasReply (long_task most) bytes (record { text = t.items; report = None; status = Done }))
reports_text {E} most bytes v (Ok t) within ends is = record {
  answer = v;
  has = record { within = within; read = ends.exact; is_verdict = is_verdict bytes v ends.exact };
  is = ap reply_with is;
}
reports_text {E} most bytes v (Err e) within ends is = tt

pub stops : (most : ℕ) (bytes : List ℕ) (e : CertificateError) (refusal : Refusal) → length bytes ≤ most →
    (e ≡ certificates.Memory → ⊥) → Fails e (certificate_of (lines_of bytes)) → refusal ≡ recheck_refusal e →
    Refuses (long_task most) bytes refusal
stops most bytes e refusal within other fails is =
    let fault = reported_fault e (certificate_of (lines_of bytes)) fails other in
    record {
      fault = e;
      meets = record {
        within = within;
        none = λ b spelled. no_verdict (certificate_of (lines_of bytes)) e b.verdict fault (text_again bytes b spelled);
        fault = fault;
      };
      is = is;
    }

-- ---- the fewest levels

pub levels_text_reported : {E : Type 0} (most : ℕ) (bytes : List ℕ) (v : DepthVerdict) (text : Result (Vec ℕ Global) E) →
    length bytes ≤ most → levels.Ends (Ok v) bytes → IfOk text (λ t. t.items ≡ levels_text v) →
    IfOk text (λ t. HasReply (long_depth_task most) bytes (record { text = t.items; report = None; status = Done }))
levels_text_reported {E} most bytes v (Ok t) within ends is = record {
  answer = v;
  has = record {
    within = within;
    has = ends.verdict;
    only = λ b spelled. one_verdict (Ok b.verdict) b.verdict v refl (ends.accepted b spelled);
    means = λ b spelled. ends.means b spelled;
  };
  is = ap reply_with is;
}
levels_text_reported {E} most bytes v (Err e) within ends is = tt

pub levels_stop : (most : ℕ) (bytes : List ℕ) (e : DepthError) (refusal : Refusal) → length bytes ≤ most →
    (e ≡ depths.Memory → ⊥) → Judged (Gives (λ (v : DepthVerdict). v) (Err e)) (lines_of bytes) →
    refusal ≡ depth_refusal e → Refuses (long_depth_task most) bytes refusal
levels_stop most bytes e refusal within other judged is =
    let fault = judged_fault e (lines_of bytes) other judged in
    record {
      fault = e;
      meets = record { within = within; none = λ b spelled. no_certificate bytes e b fault spelled; fault = fault };
      is = is;
    }
