-- Why `synth` refuses an input.
use Rattle.std.specs.Prelude.{◌≡◌, ℕ, ◌≤◌, List, length, Result, Err}
use Rattle.std.proofs.Common.{refl}
use Rattle.std.proofs.lemmas.Grind.{common_steps}
use Rattle.text_core.specs.Lines.{lines_of}
use Rattle.tt_core.specs.Words.{Words}
use Rattle.tt_core.specs.Gives.{Fails}
use Rattle.tt_core.specs.declared.error.SpecError.{SpecError}
use Rattle.tt_core.specs.declared.error.SpecError.TheVariants as tables
use Rattle.settings.specs.declared.synth.SynthSettings.{SynthSettings}
use Rattle.synth_core.specs.Tables.{tables_alone}
use Rattle.cmd_lines.specs.TableLines.{most_of_tables}
use Rattle.cmd_synth.specs.SynthReport.{synth_refusal, synth_task}
use Rattle.frame_core.specs.Reported.{Refusal}
use Rattle.frame_core.specs.Task.{Refuses}

-- ---- the result of the search

pub reported_fault : (e : SpecError) (read : Result Words SpecError) → Fails e read → (e ≡ tables.Memory → ⊥) → read ≡ Err e
reported_fault (tables.BadHeader line) read fails other = fails
reported_fault (tables.BadRow line) read fails other = fails
reported_fault (tables.WrongLength line) read fails other = fails
reported_fault tables.TooManyInputs read fails other = fails
reported_fault tables.TooManyOutputs read fails other = fails
reported_fault tables.NoOutput read fails other = fails
reported_fault tables.Memory read fails other = absurd (other refl)

pub refuses : (settings : SynthSettings) (bytes : List ℕ) (e : SpecError) (refusal : Refusal) →
    length bytes ≤ most_of_tables → (e ≡ tables.Memory → ⊥) → Fails e (tables_alone (lines_of bytes)) →
    refusal ≡ synth_refusal e → Refuses (synth_task settings) bytes refusal
refuses settings bytes e refusal within other fails is = record {
  fault = e;
  meets = record { within = within; fault = reported_fault e (tables_alone (lines_of bytes)) fails other };
  is = is;
}

pub ruleset reporting = (common_steps, refuses)
