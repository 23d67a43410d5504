-- What a run of `improve` over AIGER promises.
use Rattle.std.specs.Prelude.{◌≡◌, ℕ, List, Option, Some, None}
use Rattle.settings.specs.declared.improve.ImproveSettings.{ImproveSettings}
use Rattle.settings.specs.Improve.{IsInRange}
use Rattle.command_line.specs.declared.command.Command.{Command}
use Rattle.command_line.specs.declared.command.Command.TheVariants.{Improve}
use Rattle.command_line.specs.declared.command.Format.TheVariants.{Blif}
use Rattle.command_line.specs.CommandLine.{AsksFor}
use Rattle.frame_core.specs.declared.status.Status.TheVariants.{Usage}
use Rattle.frame_core.specs.Outside.{Writes}
use Rattle.frame_core.specs.Reported.{error_line, usage}
use Rattle.frame_core.specs.Run.{Run}
use Rattle.frame_core.specs.Promise.{CommandPromise}
use Rattle.cmd_formats.specs.AigerReport.{HasAndGates, aiger_task}

-- The words ask for `improve` over operators of gates that AIGER can express.
pub record AsksForAiger (words : List (List ℕ)) (settings : ImproveSettings) : Type 0 where
  pub asks : AsksFor words (Improve Blif settings)
  pub basis : HasAndGates settings.basis

-- The words were reported, and nothing else happened.
pub record IsUsage (r : Run) : Type 0 where
  pub on_source : r.source' ≡ r.source
  pub on_out : r.out' ≡ r.out
  pub on_note : Writes r.note r.note' (error_line usage)
  pub status_is : r.status ≡ Usage

pub record KeepsAiger (r : Run) : Type 0 where
  -- All that every command promises, for the task of `improve` that reads and writes AIGER.
  pub improves : (settings : ImproveSettings) → AsksForAiger r.words settings → CommandPromise (aiger_task settings) r
  -- Any other words are a usage error.
  pub others : ((settings : ImproveSettings) → AsksForAiger r.words settings → ⊥) → IsUsage r

-- the settings of `improve` of BLIF; None if it is another command
abbrev pub settings_in : Command → Option ImproveSettings
settings_in (Improve Blif settings) = Some settings
settings_in command = None

-- what words ask of `improve` over AIGER
abbrev pub IsAigerOf : List (List ℕ) → Option ImproveSettings → Type 0
IsAigerOf words (Some settings) = AsksForAiger words settings × IsInRange settings
IsAigerOf words None = (settings : ImproveSettings) → AsksForAiger words settings → ⊥
