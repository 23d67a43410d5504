-- The result of `recheck --depth yes` for an input.
use Rattle.std.specs.Prelude.{◌≡◌, ℕ, ◌≤◌, List, ◌∷◌, length, codes, None, Result, Ok, Err, Vec, IfOk}
use Rattle.std.specs.Global.{Global}
use Rattle.std.proofs.Common.{sym, ◌∙◌, refl, ap}
use Rattle.std.proofs.lemmas.Grind.{common_steps}
use Rattle.text_core.specs.Lines.{Line, lines_of}
use Rattle.tt_core.specs.Words.{specification}
use Rattle.op_basis.specs.Basis.{members}
use Rattle.cert_theory.specs.declared.data.CertificateError.{CertificateError}
use Rattle.cert_theory.specs.declared.data.CertificateError.TheVariants as certificates
use Rattle.depth_theory.specs.declared.data.DepthVerdict.{DepthVerdict}
use Rattle.depth_theory.specs.declared.data.DepthError.{DepthError}
use Rattle.depth_theory.specs.declared.data.DepthError.TheVariants as depths
use Rattle.depth_theory.specs.DepthCertificate.{DepthCertificate}
use Rattle.depth_theory.specs.DepthGives.{Fails, Gives}
use Rattle.depth_theory.specs.DepthJudging.{Answer, Judged, IsJudged}
use Rattle.depth_theory.specs.DepthMeaning.{Means}
use Rattle.depth_theory.specs.DepthSpelling.{IsDepthText, HasDepth}
use Rattle.depth_theory.specs.DepthAgain.{judged_again}
use Rattle.frame_core.specs.Reported.{Reply, Field, Word, Refusal}
use Rattle.frame_core.specs.Task.{HasReply, Refuses}
use Rattle.depth_theory.specs.Verdicts.{most_of_certificate}
use Rattle.cmd_recheck.specs.RecheckReport.{named_certificate}
use Rattle.depth_file.specs.StageAnswers.{Ends}
use Rattle.frame_core.specs.declared.status.Status.TheVariants.{Done}
use Rattle.cmd_recheck.specs.RecheckDepthReport.{levels_text, named_inside, depth_reply, depth_refusal, depth_task}

-- ---- error lines

inside_by : (e : CertificateError) → (e ≡ certificates.Memory → ⊥) → named_inside e ≡ Word (codes "Bundle") ∷ named_certificate e
inside_by (certificates.Syntax line) other = refl
inside_by (certificates.SizeOutOfOrder line) other = refl
inside_by (certificates.StepRefused line e) other = refl
inside_by (certificates.NotRefuted line) other = refl
inside_by (certificates.ChainDiffers output row) other = refl
inside_by (certificates.OperatorNotInBasis place) other = refl
inside_by (certificates.OpenTooShort line) other = refl
inside_by (certificates.NotNew line) other = refl
inside_by (certificates.WrongVerdict line) other = refl
inside_by certificates.Memory other = absurd (other refl)

pub named_as_inside : (e : CertificateError) (line : List Field) → (e ≡ certificates.Memory → ⊥) → line ≡ Word (codes "Bundle") ∷ named_certificate e → line ≡ named_inside e
named_as_inside e line other is = is ∙ sym (inside_by e other)

pub ruleset inside = (common_steps, named_as_inside)

-- ---- the result of judging a depth certificate

-- an error that isn't running out of memory is that of the definition
reported_fault : (e : DepthError) (answer : Answer) → (e ≡ depths.Memory → ⊥) → Fails e answer → Err e ≡ answer
reported_fault (depths.Certificate d) answer other fails = sym fails
reported_fault depths.NotLeastForm answer other fails = sym fails
reported_fault (depths.Syntax line) answer other fails = sym fails
reported_fault (depths.WrongDepth line) answer other fails = sym fails
reported_fault (depths.StepRefused line d) answer other fails = sym fails
reported_fault (depths.NotNew line) answer other fails = sym fails
reported_fault (depths.NotRefuted line) answer other fails = sym fails
reported_fault (depths.OpenTooShort line) answer other fails = sym fails
reported_fault (depths.WrongLevels line) answer other fails = sym fails
reported_fault depths.Memory answer other fails = absurd (other refl)

pub judged_fault : (e : DepthError) (lines : List Line) → (e ≡ depths.Memory → ⊥) → Judged (Gives (λ (v : DepthVerdict). v) (Err e)) lines → IsJudged lines (Err e)
judged_fault e lines other judged = record {
  refused = λ d is. reported_fault e _ other (judged.refused d is);
  following = λ b valid output same. reported_fault e _ other (judged.following b valid output same);
}

-- a text that is judged to have a fault isn't a depth certificate
pub no_certificate : (bytes : List ℕ) (e : DepthError) (b : DepthCertificate) → IsJudged (lines_of bytes) (Err e) → IsDepthText bytes b → ⊥
no_certificate bytes e b judged is = let bad : Err e ≡ Ok b.verdict = judged_again bytes b (Err e) is judged in cc

pub one_verdict : (answer : Answer) (v w : DepthVerdict) → answer ≡ Ok v → answer ≡ Ok w → v ≡ w
one_verdict answer v w is other = cc

-- The result is a verdict of the bytes, or a fault.
pub reports : (bytes : List ℕ) (v : DepthVerdict) (reply : Reply) → length bytes ≤ most_of_certificate →
    HasDepth bytes v → ((b : DepthCertificate) → IsDepthText bytes b →
    Gives (λ (x : DepthVerdict). x) (Ok v) (Ok b.verdict))
    → ((b : DepthCertificate) (is : IsDepthText bytes b) →
    Means (specification b.certificate.header.spec) (members b.certificate.header.basis)
    (length is.is_depth.chain.steps) v) → reply ≡ depth_reply v → HasReply depth_task bytes reply
reports bytes v reply within has accepted means is = record {
  answer = v;
  has = record { within = within; has = has; only = λ b text. one_verdict (Ok b.verdict) b.verdict v refl (accepted b text); means = means };
  is = is;
}

pub stops : (bytes : List ℕ) (e : DepthError) (refusal : Refusal) → length bytes ≤ most_of_certificate →
    (e ≡ depths.Memory → ⊥) → Judged (Gives (λ (v : DepthVerdict). v) (Err e)) (lines_of bytes) →
    refusal ≡ depth_refusal e → Refuses depth_task bytes refusal
stops bytes e refusal within other judged is =
    let fault = judged_fault e (lines_of bytes) other judged in
    record { fault = e; meets = record { within = within; none = λ b text. no_certificate bytes e b fault text; fault = fault }; is = is }

-- the text of a verdict, as a reply
pub reports_text : {E : Type 0} (bytes : List ℕ) (v : DepthVerdict) (text : Result (Vec ℕ Global) E) →
    length bytes ≤ most_of_certificate → Ends (Ok v) bytes → IfOk text (λ t. t.items ≡ levels_text v) →
    IfOk text (λ t. HasReply depth_task bytes (record { text = t.items; report = None; status = Done }))
reports_text {E} bytes v (Ok t) within ends is =
    reports bytes v (record { text = t.items; report = None; status = Done }) within ends.verdict (λ b text.
    ends.accepted b text) (λ b text. ends.means b text)
    (ap (λ (xs : List ℕ). let r : Reply = record { text = xs; report = None; status = Done } in r) is)
reports_text {E} bytes v (Err e) within ends is = tt
