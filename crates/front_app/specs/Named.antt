-- What a run over a file that is named promises.
use Rattle.std.specs.Prelude.{ℕ, List, [], ◌∷◌, Bool, true, false, codes, if◌then◌else◌, Option, Some, None}
use Rattle.settings.specs.declared.improve.ImproveSettings.{ImproveSettings}
use Rattle.settings.specs.declared.synth.SynthSettings.{SynthSettings}
use Rattle.settings.specs.declared.methods.MethodChoice.TheVariants.{Auto}
use Rattle.settings.specs.Synth.{IsInRange}
use Rattle.command_line.specs.declared.command.Command.{Command}
use Rattle.command_line.specs.declared.command.Command.TheVariants.{Improve, Synth}
use Rattle.command_line.specs.CommandLine.{AsksFor, IsAsked}
use Rattle.file_words.specs.Sorting.{is_same}
use Rattle.frame_core.specs.Run.{Run}
use Rattle.frame_core.specs.Promise.{CommandPromise}
use Rattle.cmd_improve.specs.ImproveReport.{FormatAsked}
use Rattle.cmd_improve.specs.NamedReport.{named_task}
use Rattle.cmd_synth.specs.SynthReport.{synth_task}
use Rattle.chain_app.specs.KeepsPromises.{KeepsPromises}
use Rattle.front_app.specs.declared.named.Asked.{Asked}
use Rattle.front_app.specs.declared.named.Asked.TheVariants as asks

-- one of the words is `--method`
unfoldable pub names_method : List (List ℕ) → Bool
names_method [] = false
names_method (word ∷ words) = if is_same word (codes "--method") then true else names_method words

-- the settings of `synth`, by `auto` where the words name no method
abbrev pub with_method : List (List ℕ) → SynthSettings → SynthSettings
with_method words settings = if names_method words then settings else record settings { method = Auto }

-- The words ask for no `improve` and for no `synth`.
pub record AsksForNone (words : List (List ℕ)) : Type 0 where
  pub no_improve : (format : FormatAsked) (settings : ImproveSettings) → AsksFor words (Improve format settings) → ⊥
  pub no_synth : (settings : SynthSettings) → AsksFor words (Synth settings) → ⊥

pub record KeepsNamed (r : Run) : Type 0 where
  -- All that every command promises, for the task of `improve` that refuses a text without a directive.
  pub improves : (format : FormatAsked) (settings : ImproveSettings) → AsksFor r.words (Improve format settings) →
      CommandPromise (named_task format settings) r
  -- All that every command promises, for the task of `synth` by the method that is named, and otherwise by `auto`.
  pub synthesises : (settings : SynthSettings) → AsksFor r.words (Synth settings) →
      CommandPromise (synth_task (with_method r.words settings)) r
  -- Any other command is the program's.
  pub others : AsksForNone r.words → KeepsPromises r

-- what a command asks for where a named file makes a difference; None if it is another command
abbrev pub asked_in : Command → Option Asked
asked_in (Improve format settings) = Some (asks.Improve format settings)
asked_in (Synth settings) = Some (asks.Synth settings)
asked_in command = None

-- what words ask for where it does
abbrev pub IsAskedBy : List (List ℕ) → Option Asked → Type 0
IsAskedBy words (Some (asks.Improve format settings)) = AsksFor words (Improve format settings) × IsAsked format settings
IsAskedBy words (Some (asks.Synth settings)) = AsksFor words (Synth settings) × IsInRange settings
IsAskedBy words None = AsksForNone words
