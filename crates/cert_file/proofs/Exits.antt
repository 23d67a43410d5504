-- Faults that are passed on.
use Rattle.std.proofs.Common.{◌≡◌, ℕ, List, Result, Ok, Err, sym, subst}
use Rattle.std.specs.Result.{IsErrAnd}
use Rattle.text_core.specs.Lines.{Line}
use Rattle.cert_theory.specs.declared.data.CertificateError.{CertificateError}
use Rattle.cert_theory.specs.declared.data.Verdict.{Verdict}
use Rattle.cert_theory.specs.Gives.{Fails, Gives}
use Rattle.cert_file.specs.Stages.{Answer, Judged}
use Rattle.cert_file.specs.declared.stage.Stage.{Stage}

pub judged_err : (r : Result Stage CertificateError) (e : CertificateError) (number : ℕ) (ls : List Line) (answer : Answer) → IsErrAnd r (λ d. d ≡ e) → Fails e answer → Judged r number ls answer
judged_err (Ok stage) e number ls answer is fails = absurd is
judged_err (Err d) e number ls answer is fails = subst (λ (x : CertificateError). Fails x answer) (sym is) fails

pub verdict_err : (r : Result Verdict CertificateError) (e : CertificateError) (answer : Answer) → IsErrAnd r (λ d. d ≡ e) → Fails e answer → Gives (λ (v : Verdict). v) r answer
verdict_err (Ok v) e answer is fails = absurd is
verdict_err (Err d) e answer is fails = subst (λ (x : CertificateError). Fails x answer) (sym is) fails
