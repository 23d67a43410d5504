-- The task of `recheck --depth yes`: the reply for each verdict, and the refusal for each fault.
use Rattle.std.specs.Prelude.{ℕ, ◌≤◌, List, ◌∷◌, ◌++◌, length, None, codes, Err}
use Rattle.text_core.specs.Lines.{lines_of}
use Rattle.cert_theory.specs.declared.data.CertificateError.{CertificateError}
use Rattle.cert_theory.specs.declared.data.CertificateError.TheVariants as certificates
use Rattle.depth_theory.specs.declared.data.DepthVerdict.{DepthVerdict}
use Rattle.depth_theory.specs.declared.data.DepthError.{DepthError}
use Rattle.depth_theory.specs.declared.data.DepthError.TheVariants as depths
use Rattle.depth_theory.specs.DepthCertificate.{DepthCertificate}
use Rattle.depth_theory.specs.DepthSpelling.{levels_line, IsDepthText}
use Rattle.depth_theory.specs.DepthJudging.{IsJudged}
use Rattle.frame_core.specs.declared.status.Status.{Status}
use Rattle.frame_core.specs.declared.status.Status.TheVariants.{Done, Malformed, Memory, Refused}
use Rattle.frame_core.specs.Reported.{Reply, Field, Word, Refusal, plain, at, memory}
use Rattle.frame_core.specs.Task.{Task, at_once}
use Rattle.depth_theory.specs.Verdicts.{most_of_certificate, GivesLevels}
use Rattle.cmd_recheck.specs.RecheckReport.{certificate_status, named_step, named_certificate}

-- the output: the line of the levels
unfoldable pub levels_text : DepthVerdict → List ℕ
levels_text verdict = levels_line verdict ++ codes "\n"

-- A text that isn't of the form of a depth certificate is `Malformed`; one of that form that isn't valid is
-- `Refused`.
abbrev pub depth_status : DepthError → Status
depth_status (depths.Certificate e) = certificate_status e
depth_status depths.NotLeastForm = Refused
depth_status (depths.Syntax line) = Malformed
depth_status (depths.WrongDepth line) = Refused
depth_status (depths.StepRefused line e) = Refused
depth_status (depths.NotNew line) = Refused
depth_status (depths.NotRefuted line) = Refused
depth_status (depths.OpenTooShort line) = Refused
depth_status (depths.WrongLevels line) = Refused
depth_status depths.Memory = Memory

-- A fault in the certificate of the fewest steps has the word "Bundle" before it; running out of memory hasn't.
-- Example: Bundle StepRefused 13 NotUnit 22.
abbrev pub named_inside : CertificateError → List Field
named_inside certificates.Memory = memory
named_inside e = Word (codes "Bundle") ∷ named_certificate e

unfoldable pub named_depth : DepthError → List Field
named_depth (depths.Certificate e) = named_inside e
named_depth depths.NotLeastForm = plain (codes "NotLeastForm")
named_depth (depths.Syntax line) = at (codes "Syntax") line
named_depth (depths.WrongDepth line) = at (codes "WrongDepth") line
named_depth (depths.StepRefused line e) = named_step line e
named_depth (depths.NotNew line) = at (codes "NotNew") line
named_depth (depths.NotRefuted line) = at (codes "NotRefuted") line
named_depth (depths.OpenTooShort line) = at (codes "OpenTooShort") line
named_depth (depths.WrongLevels line) = at (codes "WrongLevels") line
named_depth depths.Memory = memory

-- a verdict as a reply, and an error as a refusal
abbrev pub depth_reply : DepthVerdict → Reply
depth_reply verdict = record { text = levels_text verdict; report = None; status = Done }

abbrev pub depth_refusal : DepthError → Refusal
depth_refusal error = record { status = depth_status error; named = named_depth error }

-- The bytes aren't the spelling of a valid depth certificate, and this is their first fault.
pub record HasDepthFault (bytes : List ℕ) (error : DepthError) : Type 0 where
  pub within : length bytes ≤ most_of_certificate
  pub none : (b : DepthCertificate) → IsDepthText bytes b → ⊥
  pub fault : IsJudged (lines_of bytes) (Err error)

abbrev pub depth_task : Task
depth_task = at_once most_of_certificate DepthVerdict GivesLevels depth_reply DepthError HasDepthFault depth_refusal
