-- A text that is judged as in the definition has the verdict of a depth certificate.
use Rattle.std.proofs.Common.{◌≡◌, List, ℕ, length, Ok, Err, refl, sym, subst}
use Rattle.std.specs.Prelude.{IfOk}
use Rattle.std.proofs.lemmas.Grind.{common_steps}
use Rattle.text_core.specs.Lines.{Line, lines_of}
use Rattle.op_basis.specs.Basis.{members}
use Rattle.tt_core.specs.Words.{specification}
use Rattle.depth_theory.specs.declared.data.DepthError.TheVariants as errors
use Rattle.depth_theory.specs.declared.data.DepthVerdict.{DepthVerdict}
use Rattle.depth_theory.specs.DepthCertificate.{DepthCertificate}
use Rattle.depth_theory.specs.DepthGives.{Gives}
use Rattle.depth_theory.specs.DepthJudging.{Answer, Judged, IsJudged}
use Rattle.depth_theory.specs.DepthMeaning.{Means}
use Rattle.depth_theory.specs.DepthMeanings.{depth_means}
use Rattle.depth_theory.specs.DepthSpelling.{IsDepthText, HasDepth}
use Rattle.depth_theory.specs.DepthSpellings.{judged_spelled}
use Rattle.depth_theory.specs.DepthAgain.{judged_again}
use Rattle.depth_file.specs.StageAnswers.{Ends}

swapped : (a : Answer) (lines : List Line) → Judged (λ (x : Answer). x ≡ a) lines → IsJudged lines a
swapped a lines judged = record { refused = λ e is. sym (judged.refused e is); following = λ b valid output same. sym (judged.following b valid output same) }

pub verdict_read : (bytes : List ℕ) (r : Answer) → Judged (Gives (λ (v : DepthVerdict). v) r) (lines_of bytes) → IfOk r (λ v. HasDepth bytes v)
verdict_read bytes (Ok v) judged = judged_spelled bytes v (swapped (Ok v) (lines_of bytes) judged)
verdict_read bytes (Err e) judged = tt

refused_never : (bytes : List ℕ) (b : DepthCertificate) (a : Answer) → IsDepthText bytes b → Judged (λ (x : Answer). x ≡ a) (lines_of bytes) → Ok b.verdict ≡ a
refused_never bytes b a is judged = sym (judged_again bytes b a is (swapped a (lines_of bytes) judged))

pub text_accepted : (bytes : List ℕ) (b : DepthCertificate) (r : Answer) → IsDepthText bytes b →
    Judged (Gives (λ (v : DepthVerdict). v) r) (lines_of bytes) → Gives (λ (v : DepthVerdict). v) r (Ok b.verdict)
text_accepted bytes b (Ok v) is judged = refused_never bytes b (Ok v) is judged
text_accepted bytes b (Err (errors.Certificate d)) is judged = refused_never bytes b (Err (errors.Certificate d)) is judged
text_accepted bytes b (Err errors.NotLeastForm) is judged = refused_never bytes b (Err errors.NotLeastForm) is judged
text_accepted bytes b (Err (errors.Syntax n)) is judged = refused_never bytes b (Err (errors.Syntax n)) is judged
text_accepted bytes b (Err (errors.WrongDepth n)) is judged = refused_never bytes b (Err (errors.WrongDepth n)) is judged
text_accepted bytes b (Err (errors.StepRefused n d)) is judged = refused_never bytes b (Err (errors.StepRefused n d)) is judged
text_accepted bytes b (Err (errors.NotNew n)) is judged = refused_never bytes b (Err (errors.NotNew n)) is judged
text_accepted bytes b (Err (errors.NotRefuted n)) is judged = refused_never bytes b (Err (errors.NotRefuted n)) is judged
text_accepted bytes b (Err (errors.OpenTooShort n)) is judged = refused_never bytes b (Err (errors.OpenTooShort n)) is judged
text_accepted bytes b (Err (errors.WrongLevels n)) is judged = refused_never bytes b (Err (errors.WrongLevels n)) is judged
text_accepted bytes b (Err errors.Memory) is judged = tt

verdict_of_text : (v w : DepthVerdict) (a : Answer) → a ≡ Ok v → a ≡ Ok w → v ≡ w
verdict_of_text v w a one two = cc

pub verdict_holds : (bytes : List ℕ) (r : Answer) → Judged (Gives (λ (v : DepthVerdict). v) r) (lines_of bytes) →
    IfOk r (λ v. (b : DepthCertificate) (is : IsDepthText bytes b) →
    Means (specification b.certificate.header.spec) (members b.certificate.header.basis)
    (length is.is_depth.chain.steps) v)
verdict_holds bytes (Ok v) judged = λ b is.
    subst (λ (w : DepthVerdict). Means (specification b.certificate.header.spec) (members b.certificate.header.basis) (length is.is_depth.chain.steps) w)
    (verdict_of_text b.verdict v (Ok b.verdict) refl (refused_never bytes b (Ok v) is judged))
    (depth_means b is.is_depth)
verdict_holds bytes (Err e) judged = tt

pub ended : (bytes : List ℕ) (r : Answer) → Judged (Gives (λ (v : DepthVerdict). v) r) (lines_of bytes) → Ends r bytes
ended bytes r judged = record {
  exact = judged;
  verdict = verdict_read bytes r judged;
  accepted = λ b is. text_accepted bytes b r is judged;
  means = verdict_holds bytes r judged;
}

pub ruleset judges = (common_steps)
