-- What a stage says about the lines to come and about all lines of the text: each answer that all of them may
-- have. And the promise about a whole text.
use Rattle.std.specs.Prelude.{ℕ, List, length, Ok, Err, IfOk}
use Rattle.text_core.specs.Lines.{Line, lines_of}
use Rattle.op_basis.specs.Basis.{members}
use Rattle.tt_core.specs.Words.{specification}
use Rattle.depth_theory.specs.declared.data.DepthVerdict.{DepthVerdict}
use Rattle.depth_theory.specs.declared.data.DepthError.{DepthError}
use Rattle.depth_theory.specs.DepthCertificate.{DepthCertificate}
use Rattle.depth_theory.specs.DepthGives.{Gives}
use Rattle.depth_theory.specs.DepthJudging as judging
use Rattle.depth_theory.specs.DepthJudging.{Answer}
use Rattle.depth_theory.specs.DepthMeaning.{Means}
use Rattle.depth_theory.specs.DepthSpelling.{IsDepthText, HasDepth}
use Rattle.depth_file.specs.Prefixes.{IsAnswer}
use Rattle.depth_file.specs.Stages.{AnswersLines}
use Rattle.depth_file.specs.declared.stage.Stage.{Stage}

-- The stage has each answer for all lines.
abbrev pub AnswersText : Stage → ℕ → List Line → List Line → Type 0
AnswersText stage number lines all = (answer : Answer) → IsAnswer all answer → AnswersLines stage number lines answer

-- lines are refused with this error
abbrev pub Refuses : DepthError → List Line → Type 0
Refuses e all = judging.Judged (Gives (λ (v : DepthVerdict). v) (Err e)) all

-- The promise about a whole text.
pub record Ends (result : Answer) (text : List ℕ) : Type 0 where
  -- It is refused exactly if the definition has a fault, and with the first one from the top.
  pub exact : judging.Judged (Gives (λ (v : DepthVerdict). v) result) (lines_of text)
  -- A text with a verdict is that of a depth certificate with the same verdict, and each such text has one.
  pub verdict : IfOk result (λ v. HasDepth text v)
  pub accepted : (b : DepthCertificate) → IsDepthText text b → Gives (λ (v : DepthVerdict). v) result (Ok b.verdict)
  -- The verdict is true of the tables and the basis in the text.
  pub means : IfOk result (λ v. (b : DepthCertificate) (is : IsDepthText text b) →
      Means (specification b.certificate.header.spec) (members b.certificate.header.basis)
      (length is.is_depth.chain.steps) v)
