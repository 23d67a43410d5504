-- What a stage says with one more line, and the fault of a text that is one piece.
use Rattle.std.proofs.Common.{◌≡◌, ℕ, List, [], Result, Ok, Err, sym, subst, append-nil}
use Rattle.std.specs.Prelude.{IfOk}
use Rattle.std.specs.Result.{IsErrAnd}
use Rattle.text_core.specs.Lines.{Line, lines_of}
use Rattle.line_reader.specs.Reader as pieces
use Rattle.cert_theory.specs.declared.data.CertificateError.{CertificateError}
use Rattle.cert_theory.specs.declared.data.Verdict.{Verdict}
use Rattle.cert_theory.specs.Gives.{Gives, Fails}
use Rattle.cert_theory.specs.Judging.{certificate_of}
use Rattle.cert_file.specs.Stages.{Judged}
use Rattle.cert_file.specs.Claims.{KeepsClaim}
use Rattle.cert_file.specs.StageAnswers.{AnswersText, Refuses}
use Rattle.cert_file.specs.Reader.{IsRefused}
use Rattle.cert_file.specs.declared.stage.Stage.{Stage}

-- the result that a stage determines, and what it keeps
pub taken_both : (r : Result Stage CertificateError) (number : ℕ) (ls all : List Line) →
    Judged r number ls (certificate_of all) → IfOk r (λ s. KeepsClaim s number ls all) →
    pieces.Judged AnswersText Refuses r number ls all
taken_both (Ok s) number ls all judged keeps_claim = (judged, keeps_claim)
taken_both (Err e) number ls all judged keeps_claim = judged

pub gives_refused : (r : Result Verdict CertificateError) (e : CertificateError) (text : List ℕ) →
    IsErrAnd r (λ d. d ≡ e) → IsRefused e text → Gives (λ (v : Verdict). v) r (certificate_of (lines_of text))
gives_refused (Ok v) e text is refused = absurd is
gives_refused (Err d) e text is refused =
    subst (λ (x : CertificateError). Fails x (certificate_of (lines_of text))) (sym is)
    (subst (λ (whole : List ℕ). Fails e (certificate_of (lines_of whole))) (append-nil text) (refused []))
