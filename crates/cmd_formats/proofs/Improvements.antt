-- The result of `improve` for an AIGER text.
use Rattle.std.specs.Prelude.{◌≡◌, ℕ, ◌≤◌, List, length, true, false, codes}
use Rattle.std.proofs.Common.{sym, subst}
use Rattle.std.proofs.lemmas.Grind.{common_steps}
use Rattle.net_theory.specs.Limits.{most_of_netlist}
use Rattle.net_core.specs.declared.error.NetError.{NetError}
use Rattle.net_core.specs.declared.error.NetError.TheVariants as nets
use Rattle.net_document.specs.Format.{IsRefusedText}
use Rattle.aiger_binary.specs.Ascii.{is_binary}
use Rattle.aiger_sections.specs.Plain.{plain_in, sections_in}
use Rattle.aiger_forms.specs.Forms.{aiger_forms}
use Rattle.command_line.specs.WithinLaws.{within_members}
use Rattle.settings.specs.declared.improve.ImproveSettings.{ImproveSettings}
use Rattle.equiv_run.specs.Two.{is_bare}
use Rattle.improve_windows.specs.Improving.{FitsFormat, IsReported}
use Rattle.improve_aiger.specs.AigerLaws.{and_set, fits_aiger}
use Rattle.frame_core.specs.Reported.{Reply, Refusal}
use Rattle.frame_core.specs.Task.{HasReply, Refuses}
use Rattle.cmd_improve.specs.ImproveReport.{improve_reply, improve_refusal}
use Rattle.cmd_improve.specs.NamedReport.{Empty, Faulty, empty_refusal}
use Rattle.cmd_formats.specs.AigerReport.{HasAndGates, aiger_task}

pub reports : (settings : ImproveSettings) (bytes text answer report : List ℕ) (reply : Reply) → length bytes ≤ most_of_netlist →
    is_bare bytes ≡ false → IsReported aiger_forms settings bytes text report → plain_in answer ≡ text →
    sections_in answer ≡ sections_in bytes → (is_binary bytes ≡ false → is_binary answer ≡ false) →
    reply ≡ improve_reply (record { text = answer; report = report }) → HasReply (aiger_task settings) bytes reply
reports settings bytes text answer report reply within said reported stands sections form is = record {
  answer = record { text = answer; report = report };
  has = record {
    within = within;
    said = said;
    reported = subst (λ (t : List ℕ). IsReported aiger_forms settings bytes t report) (sym stands) reported;
    sections = sections;
    form = form;
  };
  is = is;
}

pub refuses : (settings : ImproveSettings) (bytes : List ℕ) (e : NetError) (refusal : Refusal) →
    length bytes ≤ most_of_netlist → is_bare bytes ≡ false → (e ≡ nets.Memory → ⊥) → IsRefusedText aiger_forms bytes e →
    refusal ≡ improve_refusal e → Refuses (aiger_task settings) bytes refusal
refuses settings bytes e refusal within said other fault is = record {
  fault = Faulty e;
  meets = record { within = within; said = said; fault = (fault, other) };
  is = is;
}

pub refuses_bare : (settings : ImproveSettings) (bytes : List ℕ) (refusal : Refusal) → length bytes ≤ most_of_netlist →
    is_bare bytes ≡ true → refusal ≡ empty_refusal (codes "Empty") → Refuses (aiger_task settings) bytes refusal
refuses_bare settings bytes refusal within bare is = record {
  fault = Empty;
  meets = record { within = within; bare = bare };
  is = is;
}

pub fits : (settings : ImproveSettings) → HasAndGates settings.basis → FitsFormat aiger_forms settings
fits settings has = fits_aiger settings (within_members settings.basis and_set has)

pub ruleset improving = (common_steps, reports, refuses, refuses_bare, fits)
