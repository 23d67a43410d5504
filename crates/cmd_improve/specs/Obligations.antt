-- `improve` has to answer every netlist.
use Rattle.std.specs.Prelude.{◌≡◌, ℕ, ◌≤◌, List, length}
use Rattle.net_document.specs.Format.{IsNetlist}
use Rattle.settings.specs.declared.improve.ImproveSettings.{ImproveSettings}
use Rattle.command_line.specs.declared.command.Command.TheVariants.{Improve}
use Rattle.frame_core.specs.declared.status.Status.{Status}
use Rattle.frame_core.specs.declared.status.Status.TheVariants.{Done}
use Rattle.frame_core.specs.Run.{Run}
use Rattle.cmd_lines.specs.Answering.{AsksWell, MustAnswer}
use Rattle.cmd_improve.specs.ImproveReport.{FormatAsked, format_of}
use Rattle.net_theory.specs.Limits.{most_of_netlist}
use Rattle.cmd_improve.specs.ImprovePromise.{ImprovePromise}

-- The bytes, no more than are read, are a netlist of the format.
abbrev pub IsImprovable : FormatAsked → List ℕ → Type 0
IsImprovable format bytes = (length bytes ≤ most_of_netlist) × IsNetlist (format_of format) bytes

pub improve_must_answer : (r : Run) (format : FormatAsked) (settings : ImproveSettings) → ImprovePromise r →
    MustAnswer (AsksWell (Improve format settings) (IsImprovable format)) (λ (s : Status). s ≡ Done) r
improve_must_answer r format settings promise asks steady =
    (promise.complete format settings asks.input asks.run asks.can.0 asks.can.1 steady).stands.status_is
