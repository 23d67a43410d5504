-- The result of `improve` for an input.
use Rattle.std.specs.Prelude.{◌≡◌, ℕ, ◌≤◌, List, length}
use Rattle.std.proofs.lemmas.Grind.{common_steps}
use Rattle.net_core.specs.declared.error.NetError.{NetError}
use Rattle.net_core.specs.declared.error.NetError.TheVariants as nets
use Rattle.net_document.specs.Format.{IsRefusedText}
use Rattle.op_basis.specs.Text.{bench_set}
use Rattle.settings.specs.declared.improve.ImproveSettings.{ImproveSettings}
use Rattle.improve_windows.specs.Improving.{FitsFormat, IsReported}
use Rattle.improve_windows.specs.FitsLaws.{fits_bench}
use Rattle.command_line.specs.declared.command.Format.TheVariants.{Bench}
use Rattle.command_line.specs.WithinLaws.{within_members}
use Rattle.command_line.specs.CommandLine.{HasGatesOf}
use Rattle.cmd_improve.specs.ImproveReport.{FormatAsked, format_of, improve_reply, improve_refusal, improve_task}
use Rattle.net_theory.specs.Limits.{most_of_netlist}
use Rattle.frame_core.specs.Reported.{Reply, Refusal}
use Rattle.frame_core.specs.Task.{HasReply, Refuses}

-- ---- its answers

pub reports : (format : FormatAsked) (settings : ImproveSettings) (bytes text report : List ℕ) (reply : Reply) →
    length bytes ≤ most_of_netlist → IsReported (format_of format) settings bytes text report →
    reply ≡ improve_reply (record { text = text; report = report }) →
    HasReply (improve_task format settings) bytes reply
reports format settings bytes text report reply within reported is = record {
  answer = record { text = text; report = report };
  has = record { within = within; reported = reported };
  is = is;
}

pub refuses : (format : FormatAsked) (settings : ImproveSettings) (bytes : List ℕ) (e : NetError) (refusal : Refusal) →
    length bytes ≤ most_of_netlist → (e ≡ nets.Memory → ⊥) → IsRefusedText (format_of format) bytes e →
    refusal ≡ improve_refusal e → Refuses (improve_task format settings) bytes refusal
refuses format settings bytes e refusal within other fault is = record {
  fault = e;
  meets = record { within = within; fault = (fault, other) };
  is = is;
}

-- a basis of the format's gates fits it
pub fits : (settings : ImproveSettings) → HasGatesOf Bench settings.basis → FitsFormat (format_of Bench) settings
fits settings has = fits_bench settings (within_members settings.basis bench_set has)

pub ruleset reporting = (common_steps, reports, refuses, fits)
