-- The promise of `synth`, besides that of every command.
use Rattle.std.specs.Prelude.{◌≡◌, ℕ, ◌⊎◌, List}
use Rattle.tt_core.specs.Words.{Words}
use Rattle.tt_core.specs.declared.error.SpecError.{SpecError}
use Rattle.cert_theory.specs.Prefix as prefixes
use Rattle.synth_core.specs.SettingsHeader.{header_of}
use Rattle.command_line.specs.CommandLine.{AsksFor}
use Rattle.settings.specs.declared.synth.SynthSettings.{SynthSettings}
use Rattle.frame_core.specs.declared.status.Status.TheVariants.{Done, Undecided, WriteFault, Memory, Refused}
use Rattle.cmd_synth.specs.SynthReport.{synth_refusal, AreTables, HasTablesFault, synth_task}
use Rattle.command_line.specs.declared.command.Command.TheVariants.{Synth}
use Rattle.port_io.specs.Bytes.{Appends}
use Rattle.frame_core.specs.Task.{IsPrefix}
use Rattle.frame_core.specs.Run.{Run}
use Rattle.cmd_lines.specs.Runs.{Runs}
use Rattle.frame_core.specs.Promise.{InputHeld, OutputHeld, ReportsError, Replies}

-- A prefix was written: of a certificate for the tables in the bytes and for the settings, or of the header of a
-- certificate and whole sections after it.
pub record LeavesPrefix (r : Run) (settings : SynthSettings) (input : List ℕ) : Type 0 where
  pub tables : Words
  pub are : AreTables input tables
  pub text : List ℕ
  pub is_prefix : prefixes.IsPrefix (header_of tables settings) text
  pub written : List ℕ
  pub begins : IsPrefix written text
  pub on_out : Appends r.out.bytes r.out'.bytes written

pub record SynthPromise (r : Run) : Type 0 where
  -- Tables get a certificate, with the status of its verdict.
  pub complete : (settings : SynthSettings) (input : List ℕ) (tables : Words)
      → Runs (Synth settings) r input
      → AreTables input tables
      → OutputHeld r
      → Replies (synth_task settings) r input
  -- The statuses 0 and 4 occur only with a certificate, and 8 never.
  pub answer_only : (settings : SynthSettings) (input : List ℕ)
      → Runs (Synth settings) r input
      → (r.status ≡ Done) ⊎ (r.status ≡ Undecided)
      → Replies (synth_task settings) r input
  pub never_refused : (settings : SynthSettings) → AsksFor r.words (Synth settings) → r.status ≡ Refused → ⊥
  -- For any other input its first fault is reported.
  pub refused : (settings : SynthSettings) (input : List ℕ) (error : SpecError)
      → Runs (Synth settings) r input
      → HasTablesFault input error
      → InputHeld r
      → ReportsError r (synth_refusal error)
  -- If the output failed, a prefix of a certificate was written, and nothing else; if memory ran out, a prefix or
  -- nothing.
  pub truncated : (settings : SynthSettings) (input : List ℕ)
      → Runs (Synth settings) r input
      → r.status ≡ WriteFault
      → LeavesPrefix r settings input
  pub out_of_memory : (settings : SynthSettings) (input : List ℕ)
      → Runs (Synth settings) r input
      → r.status ≡ Memory
      → (r.out' ≡ r.out) ⊎ LeavesPrefix r settings input
