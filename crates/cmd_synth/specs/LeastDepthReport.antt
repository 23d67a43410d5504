-- The task of `synth --least-depth yes`: its reply, and the refusal for each fault.
use Rattle.std.specs.Prelude.{◌≡◌, ℕ, ◌≤◌, List, length, None, Ok}
use Rattle.text_core.specs.Lines.{lines_of}
use Rattle.chain_theory.specs.Operator.{Basis}
use Rattle.chain_theory.specs.Specification.{Specification}
use Rattle.tt_core.specs.Words.{Words, specification}
use Rattle.tt_core.specs.declared.error.SpecError.{SpecError}
use Rattle.op_basis.specs.Basis.{members}
use Rattle.settings.specs.declared.synth.SynthSettings.{SynthSettings}
use Rattle.cert_theory.specs.Meaning as sizes
use Rattle.cert_theory.specs.Judging.{certificate_of}
use Rattle.depth_theory.specs.declared.data.DepthVerdict.TheVariants.{Levels, Bounded}
use Rattle.depth_theory.specs.DepthMeaning as depths
use Rattle.depth_theory.specs.DepthJudging.{IsJudged}
use Rattle.synth_core.specs.declared.least_depth.DepthFound.{DepthFound}
use Rattle.synth_core.specs.declared.least_depth.DepthFound.TheVariants.{Least, Other}
use Rattle.synth_core.specs.DepthCertifying.{IsCertificate}
use Rattle.frame_core.specs.declared.status.Status.{Status}
use Rattle.frame_core.specs.declared.status.Status.TheVariants.{Done, Undecided}
use Rattle.frame_core.specs.Reported.{Reply}
use Rattle.frame_core.specs.Task.{Task, at_once}
use Rattle.cmd_lines.specs.TableLines.{most_of_tables}
use Rattle.depth_theory.specs.Verdicts.{most_of_certificate, GivesVerdict}
use Rattle.depth_theory.specs.Verdicts.{GivesLevels}
use Rattle.cmd_synth.specs.SynthReport.{verdict_status, synth_refusal, AreTables, HasTablesFault}

-- If the fewest levels are known, the status is `Done`; if a budget was reached before, it is `Undecided`.
-- Without the fewest steps the status is that of the verdict on steps.
abbrev pub found_status : DepthFound → Status
found_status (Least (Levels d)) = Done
found_status (Least (Bounded low d)) = Undecided
found_status (Other verdict) = verdict_status verdict

-- a text, and what was found
pub record Certified : Type 0 where
  pub text : List ℕ
  pub found : DepthFound

abbrev pub least_depth_reply : Certified → Reply
least_depth_reply c = record { text = c.text; report = None; status = found_status c.found }

-- what the result says about chains; `steps` is the least number of steps
abbrev pub Means : Specification → Basis → DepthFound → Type 0
Means s basis (Least verdict) = (steps : ℕ) × depths.Means s basis steps verdict
Means s basis (Other verdict) = sizes.Means s basis verdict

-- Judging the text gives this verdict: as a depth certificate, or as a certificate of the fewest steps.
abbrev pub IsJudgedSo : List ℕ → DepthFound → Type 0
IsJudgedSo text (Least verdict) = IsJudged (lines_of text) (Ok verdict)
IsJudgedSo text (Other verdict) = certificate_of (lines_of text) ≡ Ok verdict

-- `recheck --depth yes` reports this verdict, or `recheck` does.
abbrev pub IsAcceptedSo : List ℕ → DepthFound → Type 0
IsAcceptedSo text (Least verdict) = GivesLevels text verdict
IsAcceptedSo text (Other verdict) = GivesVerdict text verdict

-- The text is a depth certificate for the tables in the bytes and for the settings, or a certificate of the
-- fewest steps whose verdict isn't a minimum. What it says about chains is true. Judging the text gives the same
-- verdict, and so does `recheck --depth yes`, or `recheck`, if the text is within its limit.
pub record IsCertified (settings : SynthSettings) (bytes : List ℕ) (c : Certified) : Type 0 where
  pub within : length bytes ≤ most_of_tables
  pub certificate : IsCertificate bytes settings c.text c.found
  pub means : (tables : Words)
      → AreTables bytes tables
      → Means (specification tables) (members settings.basis) c.found
  pub judged : IsJudgedSo c.text c.found
  pub rechecked : length c.text ≤ most_of_certificate → IsAcceptedSo c.text c.found

abbrev pub least_depth_task : SynthSettings → Task
least_depth_task settings = at_once most_of_tables Certified
    (IsCertified settings) least_depth_reply SpecError HasTablesFault synth_refusal
