-- What a stage says about the lines to come and about all lines of the text: the result that it determines, and
-- the header and chain that it keeps; and the results of whole texts.
use Rattle.std.specs.Prelude.{ℕ, List, Result, Ok, IfOk}
use Rattle.text_core.specs.Lines.{Line, lines_of}
use Rattle.cert_theory.specs.declared.data.CertificateError.{CertificateError}
use Rattle.cert_theory.specs.declared.data.Verdict.{Verdict}
use Rattle.cert_theory.specs.Certificate.{Certificate}
use Rattle.cert_theory.specs.Spelling.{IsCertificateText, HasVerdict}
use Rattle.cert_theory.specs.Gives.{Fails, Gives}
use Rattle.cert_theory.specs.Judging.{certificate_of}
use Rattle.cert_file.specs.Stages.{AnswersLines}
use Rattle.cert_file.specs.Claims.{KeepsClaim}
use Rattle.cert_file.specs.declared.stage.Stage.{Stage}

-- The stage determines the result of all lines, and it keeps their header and chain.
abbrev pub AnswersText : Stage → ℕ → List Line → List Line → Type 0
AnswersText stage number lines all = AnswersLines stage number lines (certificate_of all) × KeepsClaim stage number lines all

-- the lines have this fault
abbrev pub Refuses : CertificateError → List Line → Type 0
Refuses e all = Fails e (certificate_of all)

-- The result of checking a text.
pub record Ends (result : Result Verdict CertificateError) (text : List ℕ) : Type 0 where
  -- A fault is given exactly where the definition has one, and it is the first.
  pub exact : Gives (λ (v : Verdict). v) result (certificate_of (lines_of text))
  -- A verdict is given exactly to the texts of valid certificates, and it is the certificate's own.
  pub verdict : IfOk result (λ v. HasVerdict text v)
  pub accepted : (b : Certificate) → IsCertificateText text b → Gives (λ (v : Verdict). v) result (Ok b.verdict)
