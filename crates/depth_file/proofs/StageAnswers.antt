-- What a stage says after one more line, and the refusal of a text that is one piece.
use Rattle.std.proofs.Common.{◌≡◌, ℕ, List, [], Result, Ok, Err, sym, subst, append-nil}
use Rattle.std.specs.Result.{IsErrAnd}
use Rattle.text_core.specs.Lines.{Line, lines_of}
use Rattle.line_reader.specs.Reader as pieces
use Rattle.depth_theory.specs.declared.data.DepthError.{DepthError}
use Rattle.depth_theory.specs.declared.data.DepthVerdict.{DepthVerdict}
use Rattle.depth_theory.specs.DepthGives.{Gives}
use Rattle.depth_theory.specs.DepthJudging as judging
use Rattle.depth_theory.specs.DepthJudging.{Answer}
use Rattle.depth_file.specs.Prefixes.{IsAnswer}
use Rattle.depth_file.specs.Stages.{Judged}
use Rattle.depth_file.specs.StageAnswers.{AnswersText, Refuses}
use Rattle.depth_file.specs.declared.stage.Stage.{Stage}
use Rattle.depth_file.proofs.After.{judged_by}

-- each answer of all lines
pub taken_each : (r : Result Stage DepthError) (number : ℕ) (ls all : List Line) →
    ((answer : Answer) → IsAnswer all answer → Judged r number ls answer) →
    pieces.Judged AnswersText Refuses r number ls all
taken_each (Ok s) number ls all given = given
taken_each (Err e) number ls all given = judged_by (Err e) all given

pub gives_refused : (r : Answer) (e : DepthError) (text : List ℕ) → IsErrAnd r (λ d. d ≡ e) → pieces.IsRefused Refuses e text → judging.Judged (Gives (λ (v : DepthVerdict). v) r) (lines_of text)
gives_refused (Ok v) e text is refused = absurd is
gives_refused (Err d) e text is refused =
    subst (λ (x : DepthError). judging.Judged (Gives (λ (v : DepthVerdict). v) (Err x)) (lines_of text)) (sym is)
    (subst (λ (whole : List ℕ). judging.Judged (Gives (λ (v : DepthVerdict). v) (Err e)) (lines_of whole)) (append-nil text) (refused []))
