-- `synth` has to answer all tables, with and without the fewest levels.
use Rattle.std.specs.Prelude.{◌≡◌, ℕ, ◌⊎◌, List}
use Rattle.std.proofs.Common.{sym, subst, refl, inl, inr}
use Rattle.tt_core.specs.Words.{Words}
use Rattle.settings.specs.declared.synth.SynthSettings.{SynthSettings}
use Rattle.cert_theory.specs.declared.data.Verdict.{Verdict}
use Rattle.cert_theory.specs.declared.data.Verdict.TheVariants as verdicts
use Rattle.depth_theory.specs.declared.data.DepthVerdict.TheVariants as depths
use Rattle.synth_core.specs.declared.least_depth.DepthFound.{DepthFound}
use Rattle.synth_core.specs.declared.least_depth.DepthFound.TheVariants.{Least, Other}
use Rattle.command_line.specs.declared.command.Command.TheVariants.{Synth, LeastDepth}
use Rattle.frame_core.specs.declared.status.Status.{Status}
use Rattle.frame_core.specs.declared.status.Status.TheVariants.{Done, Undecided}
use Rattle.frame_core.specs.Run.{Run}
use Rattle.cmd_lines.specs.Answering.{AsksWell, MustAnswer}
use Rattle.cmd_synth.specs.SynthReport.{verdict_status, AreTables, Certified}
use Rattle.cmd_synth.specs.LeastDepthReport as levels
use Rattle.cmd_synth.specs.LeastDepthReport.{found_status}
use Rattle.cmd_synth.specs.SynthPromise.{SynthPromise}
use Rattle.cmd_synth.specs.LeastDepthPromise.{LeastDepthPromise}

-- The bytes are the spelling of tables.
abbrev pub HasTables : List ℕ → Type 0
HasTables bytes = (tables : Words) × AreTables bytes tables

-- the fewest are known, or a budget was reached before
abbrev pub IsSynthStatus : Status → Type 0
IsSynthStatus s = (s ≡ Done) ⊎ (s ≡ Undecided)

status_of_verdict : (v : Verdict) → IsSynthStatus (verdict_status v)
status_of_verdict (verdicts.Minimum r) = inl refl
status_of_verdict (verdicts.NoChain x) = inl refl
status_of_verdict (verdicts.Bounded low r) = inr refl
status_of_verdict (verdicts.Open low) = inr refl

status_of_found : (f : DepthFound) → IsSynthStatus (found_status f)
status_of_found (Least (depths.Levels d)) = inl refl
status_of_found (Least (depths.Bounded low d)) = inr refl
status_of_found (Other verdict) = status_of_verdict verdict

pub synth_must_answer : (r : Run) (settings : SynthSettings) → SynthPromise r → MustAnswer (AsksWell (Synth settings) HasTables) IsSynthStatus r
synth_must_answer r settings promise asks steady =
    let got = promise.complete settings asks.input asks.can.0 asks.run asks.can.1 steady.output in
    let certified : Certified = got.answer in
    subst IsSynthStatus (sym got.stands.status_is) (status_of_verdict certified.verdict)

pub least_depth_must_answer : (r : Run) (settings : SynthSettings) → LeastDepthPromise r → MustAnswer (AsksWell (LeastDepth settings) HasTables) IsSynthStatus r
least_depth_must_answer r settings promise asks steady =
    let got = promise.complete settings asks.input asks.can.0 asks.run asks.can.1 steady.output in
    let certified : levels.Certified = got.answer in
    subst IsSynthStatus (sym got.stands.status_is) (status_of_found certified.found)
