-- `recheck` has to answer every valid certificate, of both kinds.
use Rattle.std.specs.Prelude.{◌≡◌, ℕ, ◌≤◌, List, length}
use Rattle.cert_theory.specs.Certificate.{Certificate}
use Rattle.cert_theory.specs.Spelling.{IsCertificateText}
use Rattle.depth_theory.specs.DepthCertificate.{DepthCertificate}
use Rattle.depth_theory.specs.DepthSpelling.{IsDepthText}
use Rattle.command_line.specs.declared.command.Command.TheVariants.{Recheck, RecheckDepth}
use Rattle.frame_core.specs.declared.status.Status.{Status}
use Rattle.frame_core.specs.declared.status.Status.TheVariants.{Done}
use Rattle.frame_core.specs.Run.{Run}
use Rattle.cmd_lines.specs.Answering.{AsksWell, MustAnswer}
use Rattle.depth_theory.specs.Verdicts.{most_of_certificate}
use Rattle.cmd_recheck.specs.RecheckPromise.{RecheckPromise}
use Rattle.cmd_recheck.specs.RecheckDepthPromise.{RecheckDepthPromise}

-- The bytes, no more than are read, are the text of a valid certificate of the fewest steps.
pub record IsValid (bytes : List ℕ) : Type 0 where
  pub within : length bytes ≤ most_of_certificate
  pub certificate : Certificate
  pub is_certificate : IsCertificateText bytes certificate

-- The bytes, no more than are read, are the text of a valid certificate of the fewest levels.
pub record IsValidDepth (bytes : List ℕ) : Type 0 where
  pub within : length bytes ≤ most_of_certificate
  pub certificate : DepthCertificate
  pub is_certificate : IsDepthText bytes certificate

pub recheck_must_answer : (r : Run) → RecheckPromise r → MustAnswer (AsksWell Recheck IsValid) (λ (s : Status). s ≡ Done) r
recheck_must_answer r promise asks steady =
    (promise.accepted asks.input asks.can.certificate asks.run asks.can.within asks.can.is_certificate steady.output).status_is

pub recheck_depth_must_answer : (r : Run) → RecheckDepthPromise r → MustAnswer (AsksWell RecheckDepth IsValidDepth) (λ (s : Status). s ≡ Done) r
recheck_depth_must_answer r promise asks steady =
    (promise.accepted asks.input asks.can.certificate asks.run asks.can.within asks.can.is_certificate steady.output).status_is
